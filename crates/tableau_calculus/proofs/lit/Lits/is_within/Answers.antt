use Rattle.std.proofs.Common.{◌≤◌, length, Contains, refl, arith}
use Rattle.tableau_calculus.proofs.ListLaws.{untrue, each-more, each-all, contains-get, contains-within, within-each}
use Rattle.tableau_calculus.proofs.lit.Lits.is_within.Goals as goal

pub returns-then-not-contains : goal.returns-then-not-contains
returns-then-not-contains c =
    let here : Contains c.args.self.now c.at.result.now = contains-get c.args.self.now c.loop-i.i c.at.result.now c.at.ensures in
    (λ h. absurd (untrue h refl), λ h. absurd (untrue (c.contains.ensures.1 (contains-within c.at.result.now c.args.self.now c.args.other.now here h)) c.if-not-contains.true))

pub loop-i-preserved : goal.loop-i-preserved
loop-i-preserved c =
    each-more (Contains c.args.other.now) c.args.self.now c.loop-i.i c.at.result.now c.at.ensures c.loop-i.invariant (c.contains.ensures.0 c.if-not-contains.false)

pub returns : goal.returns
returns c =
    let passed : length c.args.self.now ≤ c.loop-i.i = omega (arith, c.len-i-end.ensures) in
    (λ _. within-each c.args.self.now c.args.other.now (each-all (Contains c.args.other.now) c.args.self.now c.loop-i.i passed c.loop-i.invariant), λ _. refl)
