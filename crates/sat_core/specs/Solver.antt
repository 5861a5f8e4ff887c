-- What contracts see of a solver. Source: Marques-Silva and Sakallah, GRASP: a search algorithm for propositional satisfiability, 1999.
use Rattle.std.specs.Prelude.{◌≡◌, ◌≤◌, ◌-◌, ℕ, Bool, true, false, IsTrue, List, [], ◌∷◌, ◌++◌, Some, length, take, slice_get}
use Rattle.std.specs.List.{All, AllPairs, Any, Contains}
use Rattle.sat_base.specs.declared.literal.Var.{Var}
use Rattle.sat_base.specs.declared.literal.SatLit.{SatLit}
use Rattle.sat_base.specs.Literal.{holds, HoldsNoVariableTwice, IsAlike}
use Rattle.sat_base.specs.Truth.{Implies}
use Rattle.sat_log.specs.declared.log.LogEntry.{LogEntry}
use Rattle.sat_log.specs.Chains.{results, IsLogOver}
use Rattle.sat_log.specs.Propagation.{IsNew}

-- a value for each variable, the clauses and the log, and whether the empty clause was derived
pub record SolverState : Type 0 where
  pub values : List Bool
  pub clauses : List (List SatLit)
  pub log : List LogEntry
  pub is_refuted : Bool

-- the results of a log without the empty clause at its end, where it was derived
abbrev pub learned_from : Bool → List (List SatLit) → List (List SatLit)
learned_from true results = take (length results - 1) results
learned_from false results = results

-- the learned clauses, in order
abbrev pub learned : SolverState → List (List SatLit)
learned solver = learned_from solver.is_refuted (results solver.log)

-- each clause from number n on is new to unit propagation over some clauses and the learned ones before it
abbrev pub AreNewFrom : ℕ → List (List SatLit) → List (List SatLit) → Type 0
AreNewFrom n clauses learned =
    (k : ℕ) (clause : List SatLit) → n ≤ k → slice_get learned k ≡ Some clause → IsNew (clauses ++ take k learned) clause

-- the variables of the clauses are in the list
abbrev pub AreAmong : List Var → List (List SatLit) → Type 0
AreAmong variables clauses = All (λ clause. All (λ l. Contains variables l.var) clause) clauses

-- each literal of the clauses occurs in others
abbrev pub OccurIn : List (List SatLit) → List (List SatLit) → Type 0
OccurIn others clauses =
    (clause : List SatLit) (l : SatLit) → Contains clauses clause → IsTrue (holds clause l) → Any (λ c. IsTrue (holds c l)) others

-- A clause is learned from clauses, after earlier ones: the clauses imply it, and it is new to unit propagation over them and the earlier
-- ones.
pub record IsLearnedFrom (clauses earlier : List (List SatLit)) (clause : List SatLit) : Type 0 where
  pub implied : Implies clauses clause
  pub new : IsNew (clauses ++ earlier) clause

-- Clauses were learned one after the other while clauses were added: each from those that were there then, which are so many of the first
-- ones.
pub record WereLearned (clauses learned : List (List SatLit)) : Type 0 where
  pub there : List ℕ
  pub counted : length there ≡ length learned
  pub in_order : AllPairs (λ n m. n ≤ m) there
  pub within : All (λ n. n ≤ length clauses) there
  pub each :
      (k n : ℕ) (clause : List SatLit)
      → slice_get there k ≡ Some n
      → slice_get learned k ≡ Some clause
      → IsLearnedFrom (take n clauses) (take k learned) clause

-- The log's results are their chains'. The learned clauses hold no variable twice, no two of them are alike, their literals occur in the
-- clauses, and each was learned from the clauses that were there. Where the empty clause was derived it is the last result.
pub record IsSound (solver : SolverState) : Type 0 where
  pub logged : IsLogOver solver.clauses solver.log
  pub once : All HoldsNoVariableTwice (learned solver)
  pub apart : AllPairs (λ a b. ¬ IsAlike a b) (learned solver)
  pub occurring : OccurIn solver.clauses (learned solver)
  pub in_turn : WereLearned solver.clauses (learned solver)
  pub ends : solver.is_refuted ≡ true → results solver.log ≡ learned solver ++ [] ∷ []

-- the log grew by new clauses, and the clauses and the number of variables stayed
pub record SolverGrows (before after : SolverState) : Type 0 where
  pub clauses_same : after.clauses ≡ before.clauses
  pub made_same : length after.values ≡ length before.values
  pub more : List LogEntry
  pub appended : after.log ≡ before.log ++ more
  pub new : AreNewFrom (length (learned before)) before.clauses (learned after)
