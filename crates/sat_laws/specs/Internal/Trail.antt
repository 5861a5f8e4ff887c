-- Where the literals of a trail come from. Only laws, proofs and private contracts use it.
use Rattle.std.specs.Prelude.{◌≡◌, ◌⊎◌, ℕ, IsTrue, List, Some, take, slice_get}
use Rattle.std.specs.List.{Any}
use Rattle.sat_base.specs.declared.literal.SatLit.{SatLit}
use Rattle.sat_base.specs.Literal.{holds}
use Rattle.sat_log.specs.Propagation.{IsUnitClause}

-- each literal of the trail is a given one, or the only one of some clause whose negation is not earlier in the trail
abbrev pub IsForced : List (List SatLit) → List SatLit → List SatLit → Type 0
IsForced clauses given trail =
    (i : ℕ) (l : SatLit)
    → slice_get trail i ≡ Some l
    → IsTrue (holds given l) ⊎ Any (λ clause. IsUnitClause (take i trail) clause l) clauses
