-- What the analysis of a conflict gives.
use Rattle.std.specs.Prelude.{◌≡◌, ◌⊎◌, ◌-◌, ◌≤◌, ℕ, IsTrue, Bool, false, List, Some, length, take, drop, slice_get}
use Rattle.std.specs.List.{Contains}
use Rattle.sat_base.specs.declared.literal.Var.{Var}
use Rattle.sat_base.specs.declared.literal.SatLit.{SatLit}
use Rattle.sat_base.specs.Literal.{negated, same_literal, holds, mentions_variable, HoldsNoVariableTwice}
use Rattle.sat_log.specs.declared.chain.Premise.{Premise}
use Rattle.sat_log.specs.declared.chain.ChainStep.{ChainStep}
use Rattle.sat_log.specs.declared.chain.Chain.{Chain}
use Rattle.sat_log.specs.Chains.{premise_clause, chain_result}
use Rattle.sat_log.specs.Propagation.{IsNew}
use Rattle.sat_laws.specs.Internal.Analysis.{IsFalseBefore, how_many}
use Rattle.sat_propagate.specs.Internal.Trail.{TrailState, literals}
use Rattle.sat_propagate.specs.Internal.Propagator.{texts}
use Rattle.sat_core.specs.Internal.Marks.{is_marked, marks_literal}
use Rattle.sat_propagate.specs.Internal.ClauseTable.{Watched}

-- each of some clauses has the name of a premise that is it
abbrev pub AreNamedPremises : List (List SatLit) → List (List SatLit) → List Premise → List Watched → Type 0
AreNamedPremises store results names clauses =
    (n : ℕ) (watched : Watched)
    → slice_get clauses n ≡ Some watched
    → (name : Premise) × (slice_get names n ≡ Some name) × (premise_clause store results name ≡ Some watched.clause)

-- a clause with one literal whose negation became true from the last decision on, and others that were false before it
pub record IsLearned (trail : TrailState) (start : ℕ) (clause : List SatLit) : Type 0 where
  pub last : slice_get trail.starts (length trail.starts - 1) ≡ Some start
  pub point : SatLit
  pub on_trail : IsTrue (holds (literals trail.steps) point)
  pub late : holds (take start (literals trail.steps)) point ≡ false
  pub member : IsTrue (holds clause (negated point))
  pub others :
      (l : SatLit)
      → IsTrue (holds clause l)
      → same_literal (negated point) l ≡ false
      → IsTrue (holds (take start (literals trail.steps)) (negated l))

-- some clause holds the literal
pub record OccursInClauses (clauses : List Watched) (l : SatLit) : Type 0 where
  pub at : ℕ
  pub watched : Watched
  pub there : slice_get clauses at ≡ Some watched
  pub member : IsTrue (holds watched.clause l)

-- a chain gives such a clause, over whatever the names name
pub record Learns (clauses : List Watched) (trail : TrailState) (names : List Premise) (chain : Chain) : Type 0 where
  pub start : ℕ
  pub outcome : List SatLit
  pub learned : IsLearned trail start outcome
  pub derived :
      (store results : List (List SatLit)) → AreNamedPremises store results names clauses → chain_result store results chain ≡ Some outcome
  pub occurring : (l : SatLit) → IsTrue (holds outcome l) → OccursInClauses clauses l
  pub once : HoldsNoVariableTwice outcome
  pub new : IsNew (texts clauses) outcome

-- a chain gives a clause that is learned, and its variables are the marked ones
pub record IsShortening (clauses : List Watched) (trail : TrailState) (names : List Premise) (marks : List Bool) (start : ℕ) (chain : Chain)
    : Type 0 where
  pub so_far : List SatLit
  pub learned : IsLearned trail start so_far
  pub marked : (v : Var) → is_marked marks v ≡ mentions_variable so_far v
  pub occurring : (l : SatLit) → IsTrue (holds so_far l) → OccursInClauses clauses l
  pub once : HoldsNoVariableTwice so_far
  pub derived :
      (store results : List (List SatLit)) → AreNamedPremises store results names clauses → chain_result store results chain ≡ Some so_far

-- the clause that some steps made of the one with this number: it is false before a place, its variables are the marked ones, and so
-- many of them have a place from the last decision on
pub record IsAnalysed (clauses : List Watched) (trail : TrailState) (names : List Premise) (conflict start : ℕ) (marks : List Bool)
    (steps : List ChainStep) (late place : ℕ) : Type 0 where
  pub so_far : List SatLit
  pub below : IsFalseBefore place (literals trail.steps) so_far
  pub marked : (v : Var) → is_marked marks v ≡ mentions_variable so_far v
  pub counted : late ≡ how_many (marks_literal marks) (drop start (literals trail.steps))
  pub some : 1 ≤ late
  pub occurring : (l : SatLit) → IsTrue (holds so_far l) → OccursInClauses clauses l
  pub origin : Contains (texts clauses) so_far ⊎ HoldsNoVariableTwice so_far
  pub derived :
      (store results : List (List SatLit))
      → AreNamedPremises store results names clauses
      → (name : Premise)
      → slice_get names conflict ≡ Some name
      → chain_result store results (record { first = name; steps = steps }) ≡ Some so_far

-- the same without a decision: the clause that some steps made of a premise that is this clause
pub record IsRefuting (clauses : List Watched) (trail : TrailState) (names : List Premise) (first : Premise) (clause : List SatLit)
    (marks : List Bool) (steps : List ChainStep) (place : ℕ) : Type 0 where
  pub so_far : List SatLit
  pub below : IsFalseBefore place (literals trail.steps) so_far
  pub marked : (v : Var) → is_marked marks v ≡ mentions_variable so_far v
  pub derived :
      (store results : List (List SatLit)) → AreNamedPremises store results names clauses → premise_clause store results first ≡ Some clause
      → chain_result store results (record { first = first; steps = steps }) ≡ Some so_far
