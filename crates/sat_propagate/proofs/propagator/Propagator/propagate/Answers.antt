use Rattle.std.proofs.Common.{◌≤◌, length, ap, ◌∙◌, arith}
use Rattle.std.proofs.lemmas.List.{length-map}
use Rattle.std.specs.List.{slice_get}
use Rattle.sat_propagate.specs.Internal.Trail.{literals}
use Rattle.sat_propagate.specs.declared.trail.Step.{Step}
use Rattle.sat_propagate.proofs.PropagatorLaws.{next_falsified, next_made, Grew-trans, at_in_longer, right_next, trail_short}
use Rattle.sat_propagate.proofs.propagator.Propagator.propagate.Goals as goal

pub visit-requires-clause-falsified : goal.visit-requires-clause-falsified
visit-requires-clause-falsified c =
    next_falsified c.loop-self.self.trail.steps c.loop-self.self.processed c.step.result c.negated-falsified.result c.step.ensures c.negated-falsified.ensures

pub visit-requires-clause-made : goal.visit-requires-clause-made
visit-requires-clause-made c =
    next_made c.loop-self.self.trail c.loop-self.self.processed c.step.result c.negated-falsified.result c.len.ensures.right c.step.ensures c.negated-falsified.ensures

pub loop-self-smaller : goal.loop-self-smaller
loop-self-smaller c =
    let short : length (literals c.loop-self.self.trail.steps) ≤ length c.loop-self.self.trail.phases =
    trail_short (length c.loop-self.self.trail.phases) (literals c.loop-self.self.trail.steps) c.len.ensures.right.once c.len.ensures.right.over in
    omega (arith, length-map c.loop-self.self.trail.steps (λ (s : Step). s.literal), c.visit.ensures.grew.made_same, c.visit.ensures.processed, c.len.ensures.number)

pub loop-self-preserved : goal.loop-self-preserved
loop-self-preserved c = record {
  right = right_next c.visit.new.self.trail c.visit.new.self.processed c.visit.new.self.clauses.items c.visit.new.self.lists c.step.result c.negated-falsified.result c.visit.ensures.right
      (ap (λ n. slice_get c.visit.new.self.trail.steps n) c.visit.ensures.processed
      ∙ at_in_longer c.loop-self.self.trail c.visit.new.self.trail c.loop-self.self.clauses.items c.visit.new.self.clauses.items c.loop-self.self.processed c.step.result c.visit.ensures.grew c.step.ensures)
      c.negated-falsified.ensures
      (c.in_ok-conflict.ensures.visited c.in_default.is);
  grew = Grew-trans _ c.loop-self.self.trail c.visit.new.self.trail _ c.loop-self.self.clauses.items c.visit.new.self.clauses.items c.loop-self.invariant.grew c.visit.ensures.grew;
}
