-- Lists of holes that share their ends.
use Rattle.std.specs.Prelude.{◌≡◌, ◌≤◌, ℕ, suc, nat_eq, List, [], ◌∷◌, length, if◌then◌else◌}
use Rattle.search_spec.specs.Partial.{Hole}

-- a hole, and the number of the list of the holes after it
abbrev pub Cell : Type 0
Cell = Hole × ℕ

-- The list of a number. The newest cell comes first, and its list has the number of all cells; 0 stands for no holes.
abbrev pub chain : List Cell → ℕ → List Hole
chain [] k = []
chain (c ∷ older) k = if nat_eq k (suc (length older)) then c.0 ∷ chain older c.1 else chain older k

-- the list after each cell is older than the cell
abbrev pub AreChained : List Cell → Type 0
AreChained [] = Unit {0}
AreChained (c ∷ older) = (c.1 ≤ length older) × AreChained older

-- with further cells the lists that were there stay
pub record ExtendsCells (old new : List Cell) : Type 0 where
  pub longer : length old ≤ length new
  pub kept : (k : ℕ) → k ≤ length old → chain new k ≡ chain old k
