use Rattle.std.proofs.Common.{◌≡◌, ◌≤◌, ◌-◌, false, length}
use Rattle.sat_core.specs.Internal.Learner.{IsLearner, GrewLearner}
use Rattle.sat_core.proofs.learner.Learner.solve.Given as goal

abbrev pub invariant-loop-answer : goal.invariant-loop-answer
invariant-loop-answer l = record {
  learner : IsLearner l.self;
  still_open : l.self.is_refuted ≡ false;
  within : length l.self.log ≤ l.fn.budget;
  grew : GrewLearner l.fn.self l.self;
  more_clauses : l.fn.self.inserted_clauses ≤ l.self.inserted_clauses;
  more_results : l.fn.self.inserted_results ≤ l.self.inserted_results;
}

abbrev pub decreases-loop-answer : goal.decreases-loop-answer
decreases-loop-answer l = l.fn.budget - length l.self.log
