use Rattle.sat_propagate.specs.Internal.Trail.{literals}
use Rattle.sat_propagate.proofs.InsertLaws.{IsBestSoFar}
use Rattle.sat_propagate.proofs.propagator.Propagator.best.Given as goal

abbrev pub invariant-loop-literal : goal.invariant-loop-literal
invariant-loop-literal l = IsBestSoFar (literals l.self.trail.steps) l.among l.other l.best l.literal-index
