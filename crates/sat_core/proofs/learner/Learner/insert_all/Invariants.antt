use Rattle.std.proofs.Common.{◌≤◌, ◌-◌, length}
use Rattle.sat_core.specs.Internal.Learner.{IsLearner, IsUnlearned}
use Rattle.sat_core.proofs.learner.Learner.insert_all.Given as goal

abbrev pub invariant-loop-self : goal.invariant-loop-self
invariant-loop-self l = record {
  learner : IsLearner l.self;
  same : IsUnlearned l.fn.self l.self;
  more_clauses : l.fn.self.inserted_clauses ≤ l.self.inserted_clauses;
  more_results : l.fn.self.inserted_results ≤ l.self.inserted_results;
}

abbrev pub decreases-loop-self : goal.decreases-loop-self
decreases-loop-self l = length l.self.clauses - l.self.inserted_clauses

abbrev pub invariant-loop-self-2 : goal.invariant-loop-self-2
invariant-loop-self-2 l = record {
  learner : IsLearner l.self;
  same : IsUnlearned l.fn.self l.self;
  more_clauses : l.fn.self.inserted_clauses ≤ l.self.inserted_clauses;
  more_results : l.fn.self.inserted_results ≤ l.self.inserted_results;
  whole : length l.self.clauses ≤ l.self.inserted_clauses;
}

abbrev pub decreases-loop-self-2 : goal.decreases-loop-self-2
decreases-loop-self-2 l = length l.self.log - l.self.inserted_results
