-- Functions of lists of bytes, and what one more entry changes.
use Rattle.std.proofs.Common.{◌≡◌, ℕ, false, cond, List, Option, Some, sym, subst, ◌∙◌, ⊎_elim}
use Rattle.std.proofs.lemmas.Bool.{cases_Bool, cond-true, cond-false}
use Rattle.std.specs.Str.{bytes_eq}
use Rattle.std.specs.Cmp.Lexicographic.{bytes_decides}

-- g is w at bs, and f at other bytes
pub by_bytes : {W : Type 0} (f g : List ℕ → W) (bs : List ℕ) (w : W) → g bs ≡ w → ((cs : List ℕ) → bytes_eq bs cs ≡ false → g cs ≡ f cs) → (cs : List ℕ) → g cs ≡ cond (bytes_eq bs cs) w (f cs)
by_bytes f g bs w here other cs =
    ⊎_elim
    (λ y. subst (λ l. g l ≡ w) ((bytes_decides bs cs).0 y) here ∙ sym (cond-true (bytes_eq bs cs) w (f cs) y))
    (λ n. other cs n ∙ sym (cond-false (bytes_eq bs cs) w (f cs) n))
    (cases_Bool (bytes_eq bs cs))

-- the same change, written otherwise
pub same_change : {X : Type 0} (k name q : List ℕ) (v w : X) (f g : Option X) → k ≡ name → v ≡ w → f ≡ g → cond (bytes_eq k q) (Some v) f ≡ cond (bytes_eq name q) (Some w) g
same_change k name q v w f g h e d = cc
