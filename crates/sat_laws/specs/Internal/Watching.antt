-- What two watched literals of a clause keep. Only laws, proofs and private contracts use it.
-- A trail is the list of the true literals; `starts` are its lengths at the decisions.
use Rattle.std.specs.Prelude.{◌≢◌, ◌⊎◌, ℕ, IsTrue, List, take}
use Rattle.std.specs.List.{Contains}
use Rattle.sat_base.specs.declared.literal.SatLit.{SatLit}
use Rattle.sat_base.specs.Literal.{negated, holds}
use Rattle.sat_laws.specs.Internal.Complete.{satisfies}

-- where the literal was false at a decision, the clause was true there; where it is among the processed ones, the clause is true
pub record IsGuarded (starts : List ℕ) (trail : List SatLit) (processed : ℕ) (clause : List SatLit) (l : SatLit) : Type 0 where
  pub at_decisions : (s : ℕ) → Contains starts s → IsTrue (holds (take s trail) (negated l)) → IsTrue (satisfies (take s trail) clause)
  pub now : IsTrue (holds (take processed trail) (negated l)) → IsTrue (satisfies trail clause)

-- two literals of the clause are guarded
pub record IsWatching (starts : List ℕ) (trail : List SatLit) (processed : ℕ) (clause : List SatLit) (first second : SatLit) : Type 0 where
  pub first_in : IsTrue (holds clause first)
  pub second_in : IsTrue (holds clause second)
  pub apart : first ≢ second
  pub first_guarded : IsGuarded starts trail processed clause first
  pub second_guarded : IsGuarded starts trail processed clause second

-- the clause is true, and was at each decision
pub record IsTrueFromRoot (starts : List ℕ) (trail clause : List SatLit) : Type 0 where
  pub at_decisions : (s : ℕ) → Contains starts s → IsTrue (satisfies (take s trail) clause)
  pub now : IsTrue (satisfies trail clause)

-- the clause is watched, or true from the root on
abbrev pub IsKept : List ℕ → List SatLit → ℕ → List SatLit → SatLit → SatLit → Type 0
IsKept starts trail processed clause first second =
    IsWatching starts trail processed clause first second ⊎ IsTrueFromRoot starts trail clause
