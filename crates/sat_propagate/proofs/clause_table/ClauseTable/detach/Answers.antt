use Rattle.std.proofs.Common.{◌≡◌, ◌<◌, Some, length, set, refl, sym, ap, ◌∙◌, arith}
use Rattle.std.specs.List.{slice_get}
use Rattle.std.specs.Option.{option_map}
use Rattle.std.proofs.lemmas.List.{map-set, length-map}
use Rattle.std.proofs.lemmas.Option.{slice_get-map, slice_get-get_or}
use Rattle.sat_propagate.specs.Internal.ClauseTable.{Clauses, with_head}
use Rattle.sat_propagate.specs.declared.clause_table.Head.{Head}
use Rattle.sat_propagate.proofs.DetachLaws.{detached_by_write}
use Rattle.sat_propagate.proofs.clause_table.ClauseTable.detach.Goals as goal

pub returns : goal.returns
returns c =
    let literals = c.self.inside.literals.items in
    let heads = c.self.inside.heads.items in
    let head : Head = c.index_mut-head.result.now in
    let new : Head = record { first = head.first; second = head.first; start = head.start; len = head.len; near = head.near } in
    let made : c.args.n < length heads = omega (arith, length-map heads (with_head literals), ap (λ (t : Clauses). length t.items) c.self.view_is, c.requires) in
    let found : slice_get heads c.args.n ≡ Some head = slice_get-get_or heads c.args.n head made ∙ ap Some (sym c.index_mut-head.ensures.value) in
    let was : slice_get c.args.self.now.items c.args.n ≡ Some (with_head literals head) =
    ap (λ (t : Clauses). slice_get t.items c.args.n) (sym c.self.view_is) ∙ slice_get-map (with_head literals) heads c.args.n ∙ ap (option_map (with_head literals)) found in
    detached_by_write c.args.self.now.items _ c.args.n (with_head literals head) (with_head literals new) was
    (map-set (with_head literals) heads c.args.n new ∙ ap (λ (t : Clauses). set t.items c.args.n (with_head literals new)) c.self.view_is) refl refl refl
