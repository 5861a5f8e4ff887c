-- Values that make clauses true, and where variables occur. Only proofs and private contracts use it.
use Rattle.std.specs.Prelude.{◌≡◌, ◌≢◌, ◌<◌, ◌≤◌, ℕ, Bool, IsTrue, List, Some, length, slice_get}
use Rattle.sat_base.specs.declared.literal.SatLit.{SatLit}
use Rattle.sat_base.specs.Literal.{holds}
use Rattle.sat_base.specs.Truth.{clause_value, assigned}
use Rattle.sat_core.specs.Internal.Learner.{IsLearner, AreOver}
use Rattle.sat_core.specs.Internal.Uses.{UseTable, IsUse}
use Rattle.sat_core.specs.declared.keeper.Keeper.{Keeper}
use Rattle.sat_core.specs.declared.learner.Learner.{Learner}

-- the table has a clause's number for each variable of the clause
abbrev pub IsUsedIn : UseTable → ℕ → List SatLit → Type 0
IsUsedIn table n clause = (l : SatLit) → IsTrue (holds clause l) → IsUse table l.var n

-- the table has the numbers of the first clauses, up to a number
abbrev pub AreUsed : UseTable → ℕ → List (List SatLit) → Type 0
AreUsed table bound clauses = (k : ℕ) (clause : List SatLit) → k < bound → slice_get clauses k ≡ Some clause → IsUsedIn table k clause

-- the first clauses, up to a number, are true
abbrev pub AreTrue : List Bool → ℕ → List (List SatLit) → Type 0
AreTrue values bound clauses =
    (k : ℕ) (clause : List SatLit) → k < bound → slice_get clauses k ≡ Some clause → IsTrue (clause_value (assigned values) clause)

-- the first clauses, up to a number, are true, other than one
abbrev pub AreTrueBut : List Bool → ℕ → ℕ → List (List SatLit) → Type 0
AreTrueBut values n bound clauses =
    (k : ℕ) (clause : List SatLit) → k < bound → k ≢ n → slice_get clauses k ≡ Some clause → IsTrue (clause_value (assigned values) clause)

-- so many clauses are in the table, and so many are true
pub record IsKeeper (values : List Bool) (uses : UseTable) (listed kept : ℕ) (clauses : List (List SatLit)) : Type 0 where
  pub listed_within : listed ≤ length clauses
  pub kept_within : kept ≤ listed
  pub used : AreUsed uses listed clauses
  pub kept_true : AreTrue values kept clauses
  pub uses_made : length values ≤ length uses.ends

-- a learner and a keeper of values for its clauses
pub record IsSolver (learner : Learner) (keeper : Keeper) : Type 0 where
  pub learns : IsLearner learner
  pub keeps : IsKeeper keeper.values.items keeper.uses keeper.listed keeper.kept learner.clauses
  pub made : length learner.propagator.trail.phases ≤ length keeper.values.items
  pub over : AreOver (length keeper.values.items) learner.clauses
