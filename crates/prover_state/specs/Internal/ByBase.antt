-- Numbers by base types.
use Rattle.std.specs.Prelude.{ℕ, suc, List, [], ◌∷◌, ◌++◌, map}
use Rattle.stt_core.specs.SimpleType.{base}
use Rattle.instantiate.specs.Listing.{Listing}

-- the numbers with their base types, of which the first list's is given and the others' follow
abbrev pub listings : ℕ → List (List ℕ) → List Listing
listings n [] = []
listings n (is ∷ lists) = map (λ i. (base n, i)) is ++ listings (suc n) lists
