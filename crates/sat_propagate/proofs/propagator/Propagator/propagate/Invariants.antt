use Rattle.std.proofs.Common.{◌-◌, length}
use Rattle.sat_propagate.specs.Internal.Propagator.{IsPropagator, Grew}
use Rattle.sat_propagate.proofs.propagator.Propagator.propagate.Given as goal

abbrev pub invariant-loop-self : goal.invariant-loop-self
invariant-loop-self l = record {
  right : IsPropagator l.self.trail l.self.processed l.self.clauses.items l.self.lists;
  grew : Grew l.fn.self.trail l.fn.self.clauses.items l.self.trail l.self.clauses.items;
}

abbrev pub decreases-loop-self : goal.decreases-loop-self
decreases-loop-self l = length l.self.trail.phases - l.self.processed
