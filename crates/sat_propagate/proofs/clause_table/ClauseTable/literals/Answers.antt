use Rattle.std.proofs.Common.{◌≡◌, ◌<◌, ◌≤◌, ◌+◌, ◌-◌, ℕ, List, length, take, drop, ap, ap₂, ◌∙◌, arith}
use Rattle.std.proofs.lemmas.List.{length-map}
use Rattle.sat_base.specs.declared.literal.SatLit.{SatLit}
use Rattle.sat_propagate.specs.Internal.ClauseTable.{Watched, Clauses, with_head}
use Rattle.sat_propagate.specs.declared.clause_table.Head.{Head}
use Rattle.sat_propagate.proofs.ClauseTableLaws.{headed-there, short-near}
use Rattle.sat_propagate.proofs.clause_table.ClauseTable.literals.Goals as goal

pub returns-then-len-le-NEAR : goal.returns-then-len-le-NEAR
returns-then-len-le-NEAR c = λ watched at.
    let literals = c.self.inside.literals.items in
    let heads = c.self.inside.heads.items in
    let head : Head = c.index-head.result.now in
    let inside : c.args.n < length heads = omega (arith, length-map heads (with_head literals), ap (λ (t : Clauses). length t.items) c.self.view_is, c.requires) in
    let short : head.len ≤ 6 = omega (arith, c.if-len-le-NEAR.true) in
    short-near literals heads c.args.n head c.self.invariant.near inside c.index-head.ensures short
    ∙ ap (λ (w : Watched). w.clause) (headed-there c.args.self.now literals heads c.args.n head watched c.self.view_is c.index-head.ensures at)

pub returns : goal.returns
returns c = λ watched at.
    let literals = c.self.inside.literals.items in
    let heads = c.self.inside.heads.items in
    let head : Head = c.index-head.result.now in
    let len_is : head.start + head.len - head.start ≡ head.len = omega arith in
    ap₂ (λ (n : ℕ) (some : List SatLit). take n (drop head.start some)) len_is c.deref.ensures.value
    ∙ ap (λ (w : Watched). w.clause) (headed-there c.args.self.now literals heads c.args.n head watched c.self.view_is c.index-head.ensures at)
