-- The numbers of the lines in the order of a walk.
use Rattle.std.specs.Prelude.{◌≡◌, ℕ, List, Some, slice_get, slice_index_or}

-- for each draft that is listed, its place in the list
abbrev pub AreNumbers : List ℕ → List ℕ → Type 0
AreNumbers order numbers = (k i : ℕ) → slice_get order k ≡ Some i → slice_index_or numbers i 0 ≡ k
