-- Lists of places, some of which are taken.
use Rattle.std.specs.Prelude.{◌≡◌, ℕ, List, Option, Some, slice_get}

-- what stands at a place of the new list stood there in the old one
abbrev pub HasNoMore : {A : Type 0} → List (Option A) → List (Option A) → Type 0
HasNoMore {A = A} old new = (i : ℕ) (x : A) → slice_get new i ≡ Some (Some x) → slice_get old i ≡ Some (Some x)
