use Rattle.std.proofs.Common.{◌≡◌, ◌≤◌, length, refl, arith}
use Rattle.tableau_calculus.proofs.ListLaws.{untrue, each-more, each-all}
use Rattle.tableau_calculus.proofs.lit.Lits.contains.Goals as goal

pub loop-i-preserved : goal.loop-i-preserved
loop-i-preserved c =
    each-more (λ k. k ≡ c.args.lit.now → ⊥) c.args.self.now c.loop-i.i c.at.result.now c.at.ensures c.loop-i.invariant (λ is. untrue (c.same.ensures.1 is) c.if-same.false)

pub returns : goal.returns
returns c =
    let passed : length c.args.self.now ≤ c.loop-i.i = omega (arith, c.len-i-end.ensures) in
    (λ h. absurd (untrue h refl), λ h. absurd (each-all (λ k. k ≡ c.args.lit.now → ⊥) c.args.self.now c.loop-i.i passed c.loop-i.invariant (c.args.lit.now) h refl))
