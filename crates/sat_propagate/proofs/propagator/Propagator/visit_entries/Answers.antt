use Rattle.std.proofs.Common.{◌<◌, List, length, sym, subst, ◌∙◌, arith}
use Rattle.sat_base.specs.Literal.{negated}
use Rattle.sat_propagate.specs.Internal.Propagator.{AreEntriesDone}
use Rattle.sat_propagate.specs.declared.watch_lists.Watch.{Watch}
use Rattle.sat_propagate.proofs.EntryLaws.{held_longer}
use Rattle.sat_propagate.proofs.PropagatorLaws.{Grew-trans}
use Rattle.sat_propagate.proofs.propagator.Propagator.visit_entries.Goals as goal

pub loop-at-preserved-in-Next : goal.loop-at-preserved-in-Next
loop-at-preserved-in-Next c =
    let before = c.loop-at.self in
    let after = c.visit_entry.new.self in
    let grew = c.visit_entry.ensures.grew in
    let made : c.args.falsified.var.0 < length before.trail.phases = c.loop-at.invariant.made in
    let done : AreEntriesDone before.trail before.clauses.items c.args.falsified c.loop-at.entries.items c.in-Some.at =
    subst (λ (some : List Watch). AreEntriesDone before.trail before.clauses.items c.args.falsified some c.in-Some.at) c.as_slice.ensures.value
    (c.in-Some.ensures.done c.args.falsified
    (subst (λ (some : List Watch). AreEntriesDone before.trail before.clauses.items c.args.falsified some c.loop-at.i) (sym c.as_slice.ensures.value) c.loop-at.invariant.done)) in
    record {
      right = c.visit_entry.ensures.right;
      grew = Grew-trans c.args.self.now.trail before.trail after.trail c.args.self.now.clauses.items before.clauses.items after.clauses.items c.loop-at.invariant.grew grew;
      processed = c.visit_entry.ensures.processed ∙ c.loop-at.invariant.processed;
      falsified = held_longer before.trail.steps grew.more after.trail.steps (negated c.args.falsified) grew.appended c.loop-at.invariant.falsified;
      made = omega (arith, made, grew.made_same);
      done = (c.in_ok-visit_entry.ensures.next c.in-Next.is).1 done;
    }

pub loop-at-preserved : goal.loop-at-preserved
loop-at-preserved c =
    let before = c.loop-at.self in
    let after = c.visit_entry.new.self in
    let grew = c.visit_entry.ensures.grew in
    let made : c.args.falsified.var.0 < length before.trail.phases = c.loop-at.invariant.made in
    let done : AreEntriesDone before.trail before.clauses.items c.args.falsified c.loop-at.entries.items c.in-Some.at =
    subst (λ (some : List Watch). AreEntriesDone before.trail before.clauses.items c.args.falsified some c.in-Some.at) c.as_slice.ensures.value
    (c.in-Some.ensures.done c.args.falsified
    (subst (λ (some : List Watch). AreEntriesDone before.trail before.clauses.items c.args.falsified some c.loop-at.i) (sym c.as_slice.ensures.value) c.loop-at.invariant.done)) in
    record {
      right = c.visit_entry.ensures.right;
      grew = Grew-trans c.args.self.now.trail before.trail after.trail c.args.self.now.clauses.items before.clauses.items after.clauses.items c.loop-at.invariant.grew grew;
      processed = c.visit_entry.ensures.processed ∙ c.loop-at.invariant.processed;
      falsified = held_longer before.trail.steps grew.more after.trail.steps (negated c.args.falsified) grew.appended c.loop-at.invariant.falsified;
      made = omega (arith, made, grew.made_same);
      done = (c.in_ok-visit_entry.ensures.again c.in-Again.is).1 done;
    }

pub returns-clause-visited : goal.returns-clause-visited
returns-clause-visited c = λ e.
    let self = c.loop-at.self in
    subst (λ (some : List Watch). AreEntriesDone self.trail self.clauses.items c.args.falsified some (length some)) c.as_slice.ensures.value
    (c.in_default.ensures.none c.args.falsified
    (subst (λ (some : List Watch). AreEntriesDone self.trail self.clauses.items c.args.falsified some c.loop-at.i) (sym c.as_slice.ensures.value) c.loop-at.invariant.done))
