use Rattle.std.proofs.Common.{length, refl, ap, ◌∙◌}
use Rattle.std.proofs.lemmas.Option.{slice_get_read, slice_get_past}
use Rattle.stt_core.specs.View.{the_type}
use Rattle.instantiate.specs.Listing.{ids_of}
use Rattle.instantiate.specs.Internal.Groups.{AreRightGroups}
use Rattle.instantiate.proofs.ListingLaws.{shown, none_shown}
use Rattle.instantiate.proofs.enumerator.Enumerator.terms_of.Goals as goal

pub returns-in-Some : goal.returns-in-Some
returns-in-Some c =
    let right : AreRightGroups c.self.inside.lists.items c.args.self.now = λ a. c.self.invariant a ∙ ap (ids_of a) c.self.view_is in
    c.as_slice-in-Some.ensures
    ∙ shown c.self.inside.lists.items c.as_slice.result.now c.deref.result.now c.args.self.now (the_type c.args.ty.now) c.place_of-place.result c.in-Some.list.now right c.as_slice.ensures.value c.place_of-place.ensures.place c.deref.ensures.value (slice_get_read c.deref.result.now (length c.deref.result.now) c.place_of-place.result c.in-Some.list.now refl c.in-Some.ensures.lookup.3.0 c.in-Some.ensures.lookup.1)

pub returns-in-None : goal.returns-in-None
returns-in-None c =
    let right : AreRightGroups c.self.inside.lists.items c.args.self.now = λ a. c.self.invariant a ∙ ap (ids_of a) c.self.view_is in
    none_shown c.self.inside.lists.items c.as_slice.result.now c.deref.result.now c.args.self.now (the_type c.args.ty.now) c.place_of-place.result right c.as_slice.ensures.value c.place_of-place.ensures.place c.deref.ensures.value (slice_get_past c.deref.result.now c.place_of-place.result c.in-None.ensures.lookup.3)
