-- Which clause made a variable's literal true. Only private contracts use it.
use Rattle.std.specs.Prelude.{◌≡◌, ℕ, List, Some, length, slice_get}
use Rattle.sat_base.specs.declared.literal.Var.{Var}
use Rattle.sat_base.specs.declared.literal.SatLit.{SatLit}
use Rattle.sat_log.specs.declared.chain.Premise.{Premise}
use Rattle.sat_log.specs.declared.chain.Premise.TheVariants.{Clause}
use Rattle.sat_propagate.specs.Internal.ClauseTable.{Watched}
use Rattle.sat_propagate.specs.Internal.Trail.{TrailState}
use Rattle.sat_propagate.specs.declared.trail.Step.{Step}

-- the trail names this number as the reason of the literal on a variable
pub record IsReasonOf (trail : TrailState) (v : Var) (n : ℕ) : Type 0 where
  pub at : ℕ
  pub step : Step
  pub there : slice_get trail.steps at ≡ Some step
  pub on : step.literal.var ≡ v
  pub reason : step.reason ≡ Some n

-- a clause whose number the trail names as the reason of the literal on a variable
pub record IsReasonClause (trail : TrailState) (clauses : List Watched) (v : Var) (clause : List SatLit) : Type 0 where
  pub number : ℕ
  pub reason : IsReasonOf trail v number
  pub watched : Watched
  pub there : slice_get clauses number ≡ Some watched
  pub text : clause ≡ watched.clause

-- the clause with this number has two literals, and is one that was added
pub record IsAddedPair (clauses : List Watched) (names : List Premise) (n : ℕ) : Type 0 where
  pub watched : Watched
  pub there : slice_get clauses n ≡ Some watched
  pub two : length watched.clause ≡ 2
  pub number : ℕ
  pub name : slice_get names n ≡ Some (Clause number)
