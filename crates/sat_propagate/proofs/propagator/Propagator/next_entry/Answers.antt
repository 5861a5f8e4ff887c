use Rattle.std.proofs.Common.{◌≡◌, ◌<◌, List, Some, length, sym, ap, ◌∙◌, arith}
use Rattle.std.specs.List.{slice_get}
use Rattle.std.proofs.lemmas.Option.{slice_get-get_or}
use Rattle.sat_base.specs.Literal.{holds}
use Rattle.sat_propagate.specs.Internal.Trail.{literals}
use Rattle.sat_propagate.specs.declared.watch_lists.Watch.{Watch}
use Rattle.sat_propagate.proofs.PropagatorLaws.{done_more, done_by_blocker}
use Rattle.sat_propagate.proofs.propagator.Propagator.next_entry.Goals as goal

pub loop-at-preserved : goal.loop-at-preserved
loop-at-preserved c = λ l done.
    let self = c.args.self.now in
    let entries : List Watch = c.args.entries.now in
    let entry : Watch = c.index-entries-at.result in
    let inside : c.loop-at.at < length entries = c.loop-at-test.true in
    let there : slice_get entries c.loop-at.at ≡ Some entry = slice_get-get_or entries c.loop-at.at entry inside ∙ ap Some (sym c.index-entries-at.is) in
    done_more self.trail self.clauses.items l entries c.loop-at.at entry there
    (done_by_blocker self.trail self.clauses.items l entry (ap (λ (w : Watch). holds (literals self.trail.steps) w.blocker) c.index-entries-at.is ∙ sym c.affirms.ensures ∙ c.if-not-affirms.false)) (c.loop-at.invariant l done)

pub returns-clause-none : goal.returns-clause-none
returns-clause-none c = λ l done k entry below at. c.loop-at.invariant l done k entry (omega (arith, below, c.loop-at-test.false)) at
