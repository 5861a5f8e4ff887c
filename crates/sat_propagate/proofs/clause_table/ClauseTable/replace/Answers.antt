use Rattle.std.proofs.Common.{◌≡◌, ℕ, set, take, drop, sym, ap, ap₂, subst, ◌∙◌}
use Rattle.std.proofs.lemmas.List.{map-set}
use Rattle.sat_propagate.specs.Internal.ClauseTable.{Watched, Clauses, with_head}
use Rattle.sat_propagate.specs.Internal.Propagator.{IsPair}
use Rattle.sat_propagate.proofs.ClauseTableLaws.{headed-there}
use Rattle.sat_propagate.proofs.PropagatorLaws.{rewatched_by_write}
use Rattle.sat_propagate.proofs.clause_table.ClauseTable.replace.Goals as goal

pub returns : goal.returns
returns c = λ old other at pair.
    let literals = c.self.inside.literals.items in
    let heads = c.self.inside.heads.items in
    let head = c.index_mut-head.result.now in
    let new = c.replace.new.self in
    let same : with_head literals head ≡ old = headed-there c.args.self.now literals heads c.args.n head old c.self.view_is c.index_mut-head.ensures.value at in
    rewatched_by_write c.args.self.now.items _ c.args.n c.args.from c.args.to other old (with_head literals new) at
    (map-set (with_head literals) heads c.args.n new ∙ ap (λ (t : Clauses). set t.items c.args.n (with_head literals new)) c.self.view_is)
    (ap₂ (λ (n s : ℕ). take n (drop s literals)) c.replace.ensures.place.1 c.replace.ensures.place.0 ∙ ap (λ (w : Watched). w.clause) same)
    pair
    (c.replace.ensures.pair literals other (subst (λ (w : Watched). IsPair w c.args.from other) (sym same) pair))
