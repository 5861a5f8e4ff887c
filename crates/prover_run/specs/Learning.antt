-- What is learned over clauses of formulas. Source: Marques-Silva and Sakallah, GRASP: a search algorithm for propositional satisfiability,
-- 1999.
use Rattle.std.specs.Prelude.{◌≡◌, ◌≢◌, ◌≤◌, ◌^◌, ◌++◌, ℕ, List, [], map, length, Contains}
use Rattle.std.specs.List.{All, AllPairs}
use Rattle.stt_core.specs.Lambda.{Lambda}
use Rattle.tableau_calculus.specs.Literals.{Literal, opposite}
use Rattle.sat_base.specs.declared.literal.Var.{Var}
use Rattle.sat_base.specs.declared.literal.SatLit.{SatLit}
use Rattle.sat_base.specs.Literal.{HoldsNoVariableTwice, IsAlike}
use Rattle.sat_base.specs.Truth.{Implies}
use Rattle.sat_log.specs.Propagation.{ReachesFalse, AreFailingDecisions}
use Rattle.sat_core.specs.Solver.{AreAmong, OccurIn, WereLearned}
use Rattle.tableau_calculus.specs.Each.{Each}
use Rattle.search_spec.specs.Numbered.{literal_at, IsNumber, AreApart}
use Rattle.search_spec.specs.Unsatisfiable.{Clause}

-- Clauses were learned over clauses of formulas. Clauses of numbered literals stand for these, where each number has an atom and no two
-- have the same one. What was learned holds no variable twice, no two of it are alike, and its literals occur in the clauses. It is
-- implied, and each was learned from the clauses that were there then: some first ones imply it, and it is new to unit propagation over
-- these and what was learned before it. That these first ones are the clauses of some state of the run isn't said.
pub record HasLearned (clauses : List Clause) : Type 0 where
  pub atoms : List Lambda
  pub apart : AreApart atoms
  pub numbered : List (List SatLit)
  pub numbers : Each (Each (IsNumber atoms)) numbered
  pub stand : map (map (literal_at atoms)) numbered ≡ clauses
  pub learned : List (List SatLit)
  pub once : All HoldsNoVariableTwice learned
  pub differ : AllPairs (λ a b. ¬ IsAlike a b) learned
  pub occurring : OccurIn numbered learned
  pub implied : All (Implies numbered) learned
  pub in_turn : WereLearned numbered learned

-- what was learned, as clauses of formulas
abbrev pub learned_clauses : {clauses : List Clause} → HasLearned clauses → List Clause
learned_clauses learning = map (map (literal_at learning.atoms)) learning.learned

-- So many conflicts are spent: as many clauses were learned, and some decisions lead to one conflict more. That isn't so where there are
-- conflicts for all clauses over the variables.
pub record AreSpent (clauses : List Clause) (conflicts : ℕ) : Type 0 where
  pub learning : HasLearned clauses
  pub counted : length learning.learned ≡ conflicts
  pub decisions : List SatLit
  pub failing : AreFailingDecisions (learning.numbered ++ learning.learned) decisions
  pub few : (variables : List Var) → AreAmong variables learning.numbered → 3 ^ length variables ≤ conflicts → ⊥

-- Unit propagation over the clauses, from no literals, reaches a literal (Davis and Putnam 1960): some clause has it, and the negations of
-- the clause's other literals are reached.
pub data IsPropagated (clauses : List Clause) : Literal → Type 0 where
  by_unit :
      (clause : Clause) (l : Literal)
      → Contains clauses clause
      → Contains clause l
      → ((m : Literal) → Contains clause m → m ≢ l → IsPropagated clauses (opposite m))
      → IsPropagated clauses l

-- unit propagation over the clauses reaches a false clause: the negations of all its literals
pub record PropagatesToFalse (clauses : List Clause) : Type 0 where
  pub clause : Clause
  pub there : Contains clauses clause
  pub denied : (l : Literal) → Contains clause l → IsPropagated clauses (opposite l)

-- The clauses are refuted within so many conflicts: at most that many clauses were learned, and unit propagation over the clauses and these
-- reaches a false clause, over the numbered ones and over those of formulas.
pub record AreRefutedWithin (conflicts : ℕ) (clauses : List Clause) : Type 0 where
  pub learning : HasLearned clauses
  pub counted : length learning.learned ≤ conflicts
  pub reaches : ReachesFalse (learning.numbered ++ learning.learned) []
  pub propagates : PropagatesToFalse (clauses ++ learned_clauses learning)

-- what was learned here was learned there too
abbrev pub IsLearnedAmong : {clauses others : List Clause} → HasLearned clauses → HasLearned others → Type 0
IsLearnedAmong here there = (clause : Clause) → Contains (learned_clauses here) clause → Contains (learned_clauses there) clause

-- the atoms of the clauses are in the list
abbrev pub HaveAtomsIn : List Lambda → List Clause → Type 0
HaveAtomsIn atoms clauses = Each (Each (λ l. Contains atoms l.atom)) clauses

-- there are conflicts for all clauses over the atoms of these, each of which a clause can hold, or its negation, or neither
pub record AreEnough (conflicts : ℕ) (clauses : List Clause) : Type 0 where
  pub atoms : List Lambda
  pub there : HaveAtomsIn atoms clauses
  pub enough : 3 ^ length atoms ≤ conflicts
