use Rattle.std.proofs.Common.{◌≡◌, ◌<◌, inl, inr, true, List, ◌+◌, length, length-set, Some, refl, sym, ap, subst, ◌∙◌, arith}
use Rattle.std.specs.List.{slice_get, swap_remove}
use Rattle.std.proofs.lemmas.Option.{same_Some, slice_get-get_or}
use Rattle.sat_base.specs.Literal.{holds}
use Rattle.sat_laws.specs.Internal.Packing.{packed}
use Rattle.sat_propagate.specs.Internal.Trail.{TrailState, literals}
use Rattle.sat_propagate.specs.Internal.WatchLists.{with_entries}
use Rattle.sat_propagate.specs.Internal.Propagator.{IsPropagator, AreEntriesDone}
use Rattle.sat_propagate.specs.declared.watch_lists.Watch.{Watch}
use Rattle.sat_propagate.specs.Internal.ClauseTable.{Watched}
use Rattle.sat_propagate.proofs.ListLaws.{unmentioned, length-swap_remove}
use Rattle.sat_propagate.proofs.PropagatorLaws.{right_assigned, done_removed}
use Rattle.sat_propagate.proofs.EntryLaws.{var_made, member_in, number_inside, right_taken, right_replaced, next_written, found_unit, next_assigned, right_moved}
use Rattle.sat_propagate.proofs.propagator.Propagator.visit_entry.Goals as goal

pub watch_other-requires-clause-made : goal.watch_other-requires-clause-made
watch_other-requires-clause-made c =
    let s = c.args.self.now in
    let entries : List Watch = c.args.entries.now.items in
    let found = c.in-Other.ensures in
    let made : c.in-Other.literal.var.0 < length s.trail.phases = var_made s.trail s.processed s.clauses.items (with_entries s.lists c.args.falsified entries) _ found.watched c.in-Other.literal c.requires.right found.there found.member in
    omega (arith, made, c.requires.right.lists_made, length-set s.lists (packed c.args.falsified) entries)

pub assign-requires-clause-made : goal.assign-requires-clause-made
assign-requires-clause-made c =
    let s = c.args.self.now in
    let lists = with_entries s.lists c.args.falsified c.args.entries.now.items in
    let found = c.in-Unit.ensures in
    var_made s.trail s.processed s.clauses.items lists _ found.watched c.in-Unit.literal c.requires.right found.there
    (member_in s.trail s.processed s.clauses.items lists _ found.watched c.in-Unit.literal c.requires.right found.there found.named)

pub assign-requires-clause-undecided : goal.assign-requires-clause-undecided
assign-requires-clause-undecided c =
    let found = c.in-Unit.ensures in
    unmentioned (literals c.args.self.now.trail.steps) c.in-Unit.literal found.untrue found.undenied

pub returns-in-Stale-clause-right : goal.returns-in-Stale-clause-right
returns-in-Stale-clause-right c =
    let s = c.args.self.now in
    let entries : List Watch = c.args.entries.now.items in
    let watch : Watch = c.index-watch.result.now in
    let inside : packed c.args.falsified < length s.lists = number_inside s.trail s.lists c.args.falsified entries c.requires.made c.requires.right.lists_made in
    let there : slice_get entries c.args.i ≡ Some watch = slice_get-get_or entries c.args.i watch c.requires.there ∙ ap Some (sym c.index-watch.ensures) in
    let gone : Watch = c.swap_remove.result in
    let gone_there : slice_get entries c.args.i ≡ Some gone = slice_get-get_or entries c.args.i gone c.requires.there ∙ ap Some (sym c.swap_remove.ensures.value) in
    let same : watch ≡ gone = same_Some _ _ (sym there ∙ gone_there) in
    subst (λ (some : List Watch). IsPropagator s.trail s.processed s.clauses.items (with_entries s.lists c.args.falsified some)) (sym c.swap_remove.ensures.items)
    (right_taken s.trail s.processed s.clauses.items s.lists c.args.falsified entries c.args.i gone inside gone_there
    (λ watched at distinct watches.
    let apart = c.in-Stale.ensures watched (ap (λ (w : Watch). slice_get s.clauses.items w.clause) same ∙ at) distinct in
    elim watches [ inl first ↦ apart.0 first | inr second ↦ apart.1 second ])
    c.requires.right)

pub returns-in-Stale-clause-again : goal.returns-in-Stale-clause-again
returns-in-Stale-clause-again c = λ e.
    let s = c.args.self.now in
    let entries : List Watch = c.args.entries.now.items in (
      ap (λ (some : List Watch). length some + 1) c.swap_remove.ensures.items ∙ length-swap_remove entries c.args.i c.swap_remove.result c.requires.there,
      λ done. subst (λ (some : List Watch). AreEntriesDone s.trail s.clauses.items c.args.falsified some c.args.i) (sym c.swap_remove.ensures.items)
          (done_removed s.trail s.clauses.items c.args.falsified entries c.args.i c.swap_remove.result c.requires.there done),
    )

pub returns-in-Satisfied-clause-right : goal.returns-in-Satisfied-clause-right
returns-in-Satisfied-clause-right c =
    let s = c.args.self.now in
    let entries : List Watch = c.args.entries.now.items in
    let watch : Watch = c.index-watch.result.now in
    let inside : packed c.args.falsified < length s.lists = number_inside s.trail s.lists c.args.falsified entries c.requires.made c.requires.right.lists_made in
    let there : slice_get entries c.args.i ≡ Some watch = slice_get-get_or entries c.args.i watch c.requires.there ∙ ap Some (sym c.index-watch.ensures) in
    let found = c.in-Satisfied.ensures in
    right_replaced s.trail s.processed s.clauses.items s.lists c.args.falsified entries c.args.i watch (record { clause = watch.clause; blocker = c.in-Satisfied.blocker }) inside there refl
    (λ watched at. subst (λ (w : Watched). holds w.clause c.in-Satisfied.blocker ≡ true) (same_Some _ _ (sym found.there ∙ at))
    (member_in s.trail s.processed s.clauses.items (with_entries s.lists c.args.falsified entries) _ found.watched c.in-Satisfied.blocker c.requires.right found.there found.named))
    c.requires.right

pub returns-in-Satisfied-clause-next : goal.returns-in-Satisfied-clause-next
returns-in-Satisfied-clause-next c = λ e.
    let s = c.args.self.now in
    let entries : List Watch = c.args.entries.now.items in
    let watch : Watch = c.index-watch.result.now in (
      length-set entries c.args.i (record { clause = watch.clause; blocker = c.in-Satisfied.blocker }),
      λ done. next_written s.trail s.clauses.items c.args.falsified entries c.args.i (record { clause = watch.clause; blocker = c.in-Satisfied.blocker }) c.requires.there c.in-Satisfied.ensures.true_now done,
    )

pub returns-in_ok-watch_other-in-Other-clause-right : goal.returns-in_ok-watch_other-in-Other-clause-right
returns-in_ok-watch_other-in-Other-clause-right c =
    let s = c.args.self.now in
    let entries : List Watch = c.args.entries.now.items in
    let watch : Watch = c.index-watch.result.now in
    let inside : packed c.args.falsified < length s.lists = number_inside s.trail s.lists c.args.falsified entries c.requires.made c.requires.right.lists_made in
    let there : slice_get entries c.args.i ≡ Some watch = slice_get-get_or entries c.args.i watch c.requires.there ∙ ap Some (sym c.index-watch.ensures) in
    let gone : Watch = c.swap_remove-in-Other.result in
    let gone_there : slice_get entries c.args.i ≡ Some gone = slice_get-get_or entries c.args.i gone c.requires.there ∙ ap Some (sym c.swap_remove-in-Other.ensures.value) in
    let same : watch ≡ gone = same_Some _ _ (sym there ∙ gone_there) in
    let found = c.in-Other.ensures in
    let moves = c.in_ok-watch_other-in-Other.ensures.moved in
    let after =
    right_moved s.trail s.processed s.clauses.items c.watch_other.new.self.clauses.items s.lists c.watch_other.new.self.lists watch.clause c.args.falsified c.in-Other.literal entries c.args.i gone
    c.requires.right inside found moves gone_there (ap (λ (w : Watch). w.clause) (sym same)) in
    subst (λ (some : List Watch). IsPropagator c.watch_other.new.self.trail c.watch_other.new.self.processed c.watch_other.new.self.clauses.items (with_entries c.watch_other.new.self.lists c.args.falsified some))
    (sym c.swap_remove-in-Other.ensures.items)
    (subst (λ (t : TrailState). IsPropagator t c.watch_other.new.self.processed c.watch_other.new.self.clauses.items (with_entries c.watch_other.new.self.lists c.args.falsified (swap_remove entries c.args.i gone))) (sym c.watch_other.ensures.trail)
    (subst (λ p. IsPropagator s.trail p c.watch_other.new.self.clauses.items (with_entries c.watch_other.new.self.lists c.args.falsified (swap_remove entries c.args.i gone))) (sym c.watch_other.ensures.processed) after.0))

pub returns-in_ok-watch_other-in-Other-clause-again : goal.returns-in_ok-watch_other-in-Other-clause-again
returns-in_ok-watch_other-in-Other-clause-again c = λ e.
    let s = c.args.self.now in
    let entries : List Watch = c.args.entries.now.items in
    let watch : Watch = c.index-watch.result.now in
    let inside : packed c.args.falsified < length s.lists = number_inside s.trail s.lists c.args.falsified entries c.requires.made c.requires.right.lists_made in
    let there : slice_get entries c.args.i ≡ Some watch = slice_get-get_or entries c.args.i watch c.requires.there ∙ ap Some (sym c.index-watch.ensures) in
    let gone : Watch = c.swap_remove-in-Other.result in
    let gone_there : slice_get entries c.args.i ≡ Some gone = slice_get-get_or entries c.args.i gone c.requires.there ∙ ap Some (sym c.swap_remove-in-Other.ensures.value) in
    let same : watch ≡ gone = same_Some _ _ (sym there ∙ gone_there) in
    let found = c.in-Other.ensures in
    let moves = c.in_ok-watch_other-in-Other.ensures.moved in
    let after =
    right_moved s.trail s.processed s.clauses.items c.watch_other.new.self.clauses.items s.lists c.watch_other.new.self.lists watch.clause c.args.falsified c.in-Other.literal entries c.args.i gone
    c.requires.right inside found moves gone_there (ap (λ (w : Watch). w.clause) (sym same)) in (
      ap (λ (some : List Watch). length some + 1) c.swap_remove-in-Other.ensures.items ∙ after.2,
      λ done. subst (λ (some : List Watch). AreEntriesDone c.watch_other.new.self.trail c.watch_other.new.self.clauses.items c.args.falsified some c.args.i) (sym c.swap_remove-in-Other.ensures.items)
          (subst (λ (t : TrailState). AreEntriesDone t c.watch_other.new.self.clauses.items c.args.falsified (swap_remove entries c.args.i gone) c.args.i) (sym c.watch_other.ensures.trail) (after.1 done)),
    )

pub returns-in_ok-assign-in-Unit-clause-right : goal.returns-in_ok-assign-in-Unit-clause-right
returns-in_ok-assign-in-Unit-clause-right c =
    let s = c.args.self.now in
    let entries : List Watch = c.args.entries.now.items in
    let watch : Watch = c.index-watch.result.now in
    let lists = with_entries s.lists c.args.falsified entries in
    let found = c.in-Unit.ensures in
    right_assigned s.trail c.assign.new.self s.processed s.clauses.items lists watch.clause found.watched c.in-Unit.literal
    c.in_ok-assign-in-Unit.ensures.steps c.assign.ensures.starts c.assign.ensures.made found.there
    (found_unit s.trail s.processed s.clauses.items lists watch.clause c.args.falsified c.in-Unit.literal c.requires.right c.requires.falsified found)
    c.requires.right

pub returns-in_ok-assign-in-Unit-clause-next : goal.returns-in_ok-assign-in-Unit-clause-next
returns-in_ok-assign-in-Unit-clause-next c = λ e.
    let s = c.args.self.now in
    let entries : List Watch = c.args.entries.now.items in
    let watch : Watch = c.index-watch.result.now in
    let there : slice_get entries c.args.i ≡ Some watch = slice_get-get_or entries c.args.i watch c.requires.there ∙ ap Some (sym c.index-watch.ensures) in
    let found = c.in-Unit.ensures in (
      refl,
      λ done. next_assigned s.trail c.assign.new.self s.clauses.items c.args.falsified c.in-Unit.literal entries c.args.i watch found.watched
          (record { literal = c.in-Unit.literal; reason = Some watch.clause })
          c.in_ok-assign-in-Unit.ensures.steps refl there found.there
          (member_in s.trail s.processed s.clauses.items (with_entries s.lists c.args.falsified entries) watch.clause found.watched c.in-Unit.literal c.requires.right found.there found.named) done,
    )
