use Rattle.std.proofs.Common.{◌≡◌, ◌<◌, ◌++◌, [], ◌∷◌, Some, length, not, nat_eq, set, slice_get, sym, ap, ◌∙◌, arith}
use Rattle.std.specs.List.{list_any}
use Rattle.std.proofs.lemmas.Option.{slice_get_read}
use Rattle.stt_core.specs.View.{the_type}
use Rattle.instantiate.specs.Internal.Groups.{group_place}
use Rattle.instantiate.proofs.ListingLaws.{at_place, at_end, more_old, more_new}
use Rattle.instantiate.proofs.enumerator.add_to.Goals as goal

pub returns-then-place-len-clause-fresh : goal.returns-then-place-len-clause-fresh
returns-then-place-len-clause-fresh c =
    let gs = c.args.lists.now.items in
    let a = the_type c.args.ty.now in
    let place : c.place_of-place.result ≡ group_place a gs = c.place_of-place.ensures.place ∙ ap (group_place a) c.as_slice.ensures.value in
    let end : group_place a gs ≡ length gs = omega (arith, place, c.if-place-len.true, c.len.ensures) in
    ap not (sym (ap (list_any (nat_eq c.args.id)) (at_end a gs end)))

pub returns-then-place-len-clause-more : goal.returns-then-place-len-clause-more
returns-then-place-len-clause-more c = λ _.
    let gs = c.args.lists.now.items in
    let a = the_type c.args.ty.now in
    let place : c.place_of-place.result ≡ group_place a gs = c.place_of-place.ensures.place ∙ ap (group_place a) c.as_slice.ensures.value in
    let end : group_place a gs ≡ length gs = omega (arith, place, c.if-place-len.true, c.len.ensures) in
    more_new gs c.push.new.self.items a c.args.id end (c.in_ok-push.ensures.items ∙ ap (λ x. gs ++ x ∷ []) c.in_ok-new.ensures)

pub returns-then-has-clause-fresh : goal.returns-then-has-clause-fresh
returns-then-has-clause-fresh c =
    let gs = c.args.lists.now.items in
    let a = the_type c.args.ty.now in
    let place : c.place_of-place.result ≡ group_place a gs = c.place_of-place.ensures.place ∙ ap (group_place a) c.as_slice.ensures.value in
    let inside : c.place_of-place.result < c.args.lists.now.len = omega (arith, c.if-place-len.false, c.len.ensures, c.args.lists.now.ok.0, c.place_of-place.ensures.within, c.as_slice.ensures.len) in
    let here : slice_get gs (group_place a gs) ≡ Some c.index.result.now = ap (slice_get gs) (sym place) ∙ slice_get_read gs c.args.lists.now.len c.place_of-place.result c.index.result.now c.args.lists.now.ok.0 inside c.index.ensures in
    ap not (sym c.if-has.true ∙ c.has.ensures ∙ ap (list_any (nat_eq c.args.id)) (sym (at_place a gs c.index.result.now here).1))

pub returns-clause-fresh : goal.returns-clause-fresh
returns-clause-fresh c =
    let gs = c.args.lists.now.items in
    let a = the_type c.args.ty.now in
    let place : c.place_of-place.result ≡ group_place a gs = c.place_of-place.ensures.place ∙ ap (group_place a) c.as_slice.ensures.value in
    let inside : c.place_of-place.result < c.args.lists.now.len = omega (arith, c.if-place-len.false, c.len.ensures, c.args.lists.now.ok.0, c.place_of-place.ensures.within, c.as_slice.ensures.len) in
    let here : slice_get gs (group_place a gs) ≡ Some c.index.result.now = ap (slice_get gs) (sym place) ∙ slice_get_read gs c.args.lists.now.len c.place_of-place.result c.index.result.now c.args.lists.now.ok.0 inside c.index.ensures in
    ap not (sym c.if-has.false ∙ c.has.ensures ∙ ap (list_any (nat_eq c.args.id)) (sym (at_place a gs c.index.result.now here).1))

pub returns-clause-more : goal.returns-clause-more
returns-clause-more c = λ _.
    let gs = c.args.lists.now.items in
    let a = the_type c.args.ty.now in
    let place : c.place_of-place.result ≡ group_place a gs = c.place_of-place.ensures.place ∙ ap (group_place a) c.as_slice.ensures.value in
    let inside : c.place_of-place.result < c.args.lists.now.len = omega (arith, c.if-place-len.false, c.len.ensures, c.args.lists.now.ok.0, c.place_of-place.ensures.within, c.as_slice.ensures.len) in
    let here : slice_get gs (group_place a gs) ≡ Some c.index_mut.result.now = ap (slice_get gs) (sym place) ∙ slice_get_read gs c.args.lists.now.len c.place_of-place.result c.index_mut.result.now c.args.lists.now.ok.0 inside c.index_mut.ensures.value in
    more_old gs (set gs c.place_of-place.result c.push-2.new.self) a c.index_mut.result.now c.args.id here
    (ap (set gs c.place_of-place.result) c.in_ok-push-2.ensures.ok ∙ ap (λ n. set gs n (c.index_mut.result.now.0, c.index_mut.result.now.1 ++ c.args.id ∷ [])) place)
