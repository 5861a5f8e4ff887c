use Rattle.std.proofs.Common.{◌≡◌, ◌-◌, length}
use Rattle.sat_propagate.specs.Internal.Propagator.{IsPropagator, texts}
use Rattle.sat_propagate.proofs.propagator.Propagator.search.Given as goal

abbrev pub invariant-loop-conflict : goal.invariant-loop-conflict
invariant-loop-conflict l = record {
  right : IsPropagator l.self.trail l.self.processed l.self.clauses.items l.self.lists;
  made : length l.self.trail.phases ≡ length l.fn.self.trail.phases;
  texts_same : texts l.self.clauses.items ≡ texts l.fn.self.clauses.items;
}

abbrev pub decreases-loop-conflict : goal.decreases-loop-conflict
decreases-loop-conflict l = length l.self.trail.phases - length l.self.trail.steps
