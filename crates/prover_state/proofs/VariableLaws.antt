-- Target types of the variables in scope.
use Rattle.std.proofs.Common.{◌≡◌, ◌<◌, ℕ, zero, suc, List, [], ◌∷◌, map, length, slice_get, get_or, Some, refl, ap, ◌∙◌, arith}
use Rattle.stt_core.specs.SimpleType.{SimpleType, target}

-- what is at a place of the target types belongs to the type there
pub target-there : (types : List SimpleType) (i : ℕ) (n : ℕ) (targets : List ℕ) → i < length types → targets ≡ map target types → n ≡ get_or targets i n → (a : SimpleType) × ((slice_get types i ≡ Some a) × (n ≡ target a))
target-there types i n targets l e m = go types i l (m ∙ ap (λ ns. get_or ns i n) e)
  where
    go : (xs : List SimpleType) (j : ℕ) → j < length xs → n ≡ get_or (map target xs) j n → (a : SimpleType) × ((slice_get xs j ≡ Some a) × (n ≡ target a))
    go [] j k is = absurd (omega (arith, k))
    go (a ∷ xs) zero k is = (a, (refl, is))
    go (a ∷ xs) (suc j) k is = go xs j (omega (arith, k)) is
