-- Marks by number.
use Rattle.std.specs.Prelude.{◌≡◌, ℕ, Bool, false, List, nat_eq, slice_index_or}
use Rattle.std.specs.List.{list_any}
use Rattle.sat_base.specs.declared.literal.SatLit.{SatLit}
use Rattle.sat_laws.specs.Internal.Packing.{packed}
use Rattle.tableau_calculus.specs.Kinds.{has}
use Rattle.search_spec.specs.Numbered.{numbers}

-- each literal is marked by its number where it is one of the list
abbrev pub AreMarks : List SatLit → List Bool → Type 0
AreMarks literals marks = (l : SatLit) → has numbers literals l ≡ slice_index_or marks (packed l) false

-- each number is marked where it is one of the list
abbrev pub AreNumberMarks : List ℕ → List Bool → Type 0
AreNumberMarks ids marks = (n : ℕ) → list_any (nat_eq n) ids ≡ slice_index_or marks n false
