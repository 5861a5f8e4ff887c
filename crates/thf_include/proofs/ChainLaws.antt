-- A name among names.
use Rattle.std.proofs.Common.{◌≡◌, ℕ, zero, suc, List, ◌∷◌, Bool, ◌↔◌, IsTrue, Contains, arith}

-- a name that isn't the first is among the later ones
pub Contains-later : (first name : List ℕ) (names : List (List ℕ)) (b : Bool) → (first ≡ name → ⊥) → IsTrue b ↔ Contains names name → IsTrue b ↔ Contains (first ∷ names) name
Contains-later first name names b other h = (forth, back)
  where
    forth : IsTrue b → Contains (first ∷ names) name
    forth t = let c = h.0 t in (suc c.0, omega (arith, c.1), c.2)

    back : Contains (first ∷ names) name → IsTrue b
    back (zero, short, e) = absurd (other e)
    back (suc k, short, e) = h.1 (k, omega arith, e)
