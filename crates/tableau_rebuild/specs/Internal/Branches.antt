-- The branches of lines, where those of their children are there.
use Rattle.std.specs.Prelude.{◌<◌, ℕ, List, [], ◌∷◌, map, length, slice_index_or}
use Rattle.sat_base.specs.declared.literal.SatLit.{SatLit}
use Rattle.sat_base.specs.Literal.{negated}
use Rattle.sat_log.specs.Resolution.{resolvent}
use Rattle.tableau_rebuild.specs.declared.draft.Draft.{Draft}
use Rattle.tableau_rebuild.specs.declared.draft.Draft.TheVariants.{Clause, Close, Cut}

-- the branch of the line with a draft's number
abbrev pub number_branch_at : List ℕ → List (List SatLit) → ℕ → List SatLit
number_branch_at numbers branches i = slice_index_or branches (slice_index_or numbers i 0) []

abbrev pub branch_by : List (List SatLit) → List ℕ → List (List SatLit) → Draft → List SatLit
branch_by clauses numbers branches (Clause n) = map negated (slice_index_or clauses n [])
branch_by clauses numbers branches (Close at l m) = l ∷ m ∷ []
branch_by clauses numbers branches (Cut at v on off) =
    resolvent v (number_branch_at numbers branches on) (number_branch_at numbers branches off)

-- the branches of the children are there
abbrev pub IsReady : ℕ → List ℕ → ℕ → Draft → Type 0
IsReady clauses numbers branches (Clause n) = n < clauses
IsReady clauses numbers branches (Close at l m) = Unit {0}
IsReady clauses numbers branches (Cut at v on off) =
    ((on < length numbers) × (slice_index_or numbers on 0 < branches))
    × ((off < length numbers) × (slice_index_or numbers off 0 < branches))
