use Rattle.std.proofs.Common.{◌≡◌, ◌≤◌, ◌-◌, length}
use Rattle.sat_core.specs.Internal.Learner.{IsLearner}
use Rattle.sat_core.proofs.learner.Learner.make_variables.Given as goal

abbrev pub invariant-loop-self : goal.invariant-loop-self
invariant-loop-self l = record {
  learner : IsLearner l.self;
  within : length l.self.propagator.trail.phases ≤ l.count;
  clauses : l.self.clauses ≡ l.fn.self.clauses;
  log : l.self.log ≡ l.fn.self.log;
  refuted : l.self.is_refuted ≡ l.fn.self.is_refuted;
  inserted_clauses : l.self.inserted_clauses ≡ l.fn.self.inserted_clauses;
  inserted_results : l.self.inserted_results ≡ l.fn.self.inserted_results;
}

abbrev pub decreases-loop-self : goal.decreases-loop-self
decreases-loop-self l = l.count - length l.self.propagator.trail.phases
