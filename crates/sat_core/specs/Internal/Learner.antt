-- What is true of a learner between any two calls. Only proofs and private contracts use it.
use Rattle.std.specs.Prelude.{◌≡◌, ◌≢◌, ◌≤◌, ◌<◌, ◌^◌, ◌∷◌, ◌++◌, [], ℕ, Bool, true, false, List, Some, length, take, slice_get}
use Rattle.std.specs.List.{All, AllPairs, Contains}
use Rattle.sat_base.specs.declared.literal.Var.{Var}
use Rattle.sat_base.specs.declared.literal.SatLit.{SatLit}
use Rattle.sat_base.specs.Literal.{HoldsNoVariableTwice, IsAlike, IsOver}
use Rattle.sat_base.specs.Truth.{AllTrue, assigned}
use Rattle.sat_log.specs.declared.chain.Premise.{Premise}
use Rattle.sat_log.specs.declared.log.LogEntry.{LogEntry}
use Rattle.sat_log.specs.Chains.{results, IsLogOver}
use Rattle.sat_log.specs.Propagation.{IsNew, ReachesFalse, AreFailingDecisions}
use Rattle.sat_core.specs.Internal.Learned.{AreNamedPremises}
use Rattle.sat_core.specs.Solver.{SolverState, learned_from, AreAmong, OccurIn, WereLearned}
use Rattle.sat_core.specs.declared.learner.Learner.{Learner}
use Rattle.sat_core.specs.declared.learner.Answer.{Answer}
use Rattle.sat_core.specs.declared.learner.Answer.TheVariants.{Sat, Unsat, Spent}
use Rattle.sat_propagate.specs.Internal.Propagator.{IsPropagator, texts}
use Rattle.sat_propagate.specs.declared.propagator.Propagator.{Propagator}

-- each clause of the propagator has the name of a clause or result that it is, and its variables have marks
pub record IsNamedPropagator (clauses results : List (List SatLit)) (propagator : Propagator) (names : List Premise) (marks : List Bool) :
    Type 0 where
  pub right : IsPropagator propagator.trail propagator.processed propagator.clauses.items propagator.lists
  pub named : AreNamedPremises clauses results names propagator.clauses.items
  pub names_made : length names ≡ length propagator.clauses.items
  pub marks_made : length propagator.trail.phases ≤ length marks

-- the variables of the clauses have numbers below n
abbrev pub AreOver : ℕ → List (List SatLit) → Type 0
AreOver n clauses = (k : ℕ) (clause : List SatLit) → slice_get clauses k ≡ Some clause → IsOver n clause

-- the first clauses of a list, up to number n, are among some others
abbrev pub AreInserted : ℕ → List (List SatLit) → List (List SatLit) → Type 0
AreInserted n clauses others = (k : ℕ) (clause : List SatLit) → k < n → slice_get clauses k ≡ Some clause → Contains others clause

-- clauses that were learned from others are not empty and hold no variable twice, no two of them are alike, and their
-- literals occur in those
pub record AreLearned (clauses learned : List (List SatLit)) : Type 0 where
  pub filled : (clause : List SatLit) → Contains learned clause → clause ≢ []
  pub once : All HoldsNoVariableTwice learned
  pub apart : AllPairs (λ a b. ¬ IsAlike a b) learned
  pub occurring : OccurIn clauses learned

-- the empty clause is the last result, and unit propagation shows why
pub record AreRefutedClauses (clauses results : List (List SatLit)) : Type 0 where
  pub ends : results ≡ learned_from true results ++ [] ∷ []
  pub propagated : ReachesFalse (clauses ++ learned_from true results) []

pub record IsLearnerOf (clauses : List (List SatLit)) (log : List LogEntry) (is_refuted : Bool) (propagator : Propagator)
    (names : List Premise) (marks : List Bool) (inserted_clauses inserted_results : ℕ) : Type 0 where
  pub ready : IsNamedPropagator clauses (results log) propagator names marks
  pub logged : IsLogOver clauses log
  pub clauses_made : inserted_clauses ≤ length clauses
  pub results_made : inserted_results ≤ length log
  pub clauses_in : AreInserted inserted_clauses clauses (texts propagator.clauses.items)
  pub results_in : AreInserted inserted_results (results log) (texts propagator.clauses.items)
  pub of_learned : AreLearned clauses (learned_from is_refuted (results log))
  pub in_turn : WereLearned clauses (learned_from is_refuted (results log))
  pub refuted : is_refuted ≡ true → AreRefutedClauses clauses (results log)

-- the facts that hold of a learner between any two calls
abbrev pub IsLearner : Learner → Type 0
IsLearner s = IsLearnerOf s.clauses s.log s.is_refuted s.propagator s.names.items s.marks.marked s.inserted_clauses s.inserted_results

-- the log grew by new clauses and the empty one, and the clauses and the number of variables stayed
pub record GrewLearner (before after : Learner) : Type 0 where
  pub clauses_same : after.clauses ≡ before.clauses
  pub made_same : length after.propagator.trail.phases ≡ length before.propagator.trail.phases
  pub more : List LogEntry
  pub appended : after.log ≡ before.log ++ more
  pub new :
      (k : ℕ) (clause : List SatLit)
      → length before.log ≤ k
      → slice_get (results after.log) k ≡ Some clause
      → clause ≢ []
      → IsNew (before.clauses ++ take k (results after.log)) clause

-- nothing that callers see changed, beside the values
pub record IsUnlearned (before after : Learner) : Type 0 where
  pub clauses_same : after.clauses ≡ before.clauses
  pub made_same : length after.propagator.trail.phases ≡ length before.propagator.trail.phases
  pub log_same : after.log ≡ before.log
  pub refuted_same : after.is_refuted ≡ before.is_refuted

-- so many clauses were learned as the budget says, some decisions fail, and one more clause could have been learned
pub record AreSpentConflicts (clauses learned : List (List SatLit)) (budget conflicts : ℕ) : Type 0 where
  pub reported : conflicts ≡ budget
  pub counted : length learned ≡ budget
  pub decisions : List SatLit
  pub failing : AreFailingDecisions (clauses ++ learned) decisions
  pub few : (variables : List Var) → AreAmong variables clauses → budget < 3 ^ length variables

-- what callers see of a learner, with these values
abbrev pub state_with : List Bool → Learner → SolverState
state_with values s = record { values = values; clauses = s.clauses; log = s.log; is_refuted = s.is_refuted }

-- what callers see of a learner, with the last values of its trail
abbrev pub seen : Learner → SolverState
seen s = state_with s.propagator.trail.phases s

-- what an answer says of the solver
abbrev pub AnswersSolve : ℕ → SolverState → Answer → Type 0
AnswersSolve budget s Sat = (s.is_refuted ≡ false) × AllTrue (assigned s.values) s.clauses
AnswersSolve budget s Unsat = s.is_refuted ≡ true
AnswersSolve budget s (Spent conflicts) = (s.is_refuted ≡ false) × AreSpentConflicts s.clauses (results s.log) budget conflicts
