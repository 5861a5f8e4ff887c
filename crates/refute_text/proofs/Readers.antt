-- How the readers go on.
use Rattle.std.proofs.Common.{◌≡◌, ℕ, ◌&&◌, Bool, true, false, List, [], ◌∷◌, ◌++◌, Option, Some, None, refl, ap₂, if◌then◌else◌}
use Rattle.std.specs.List.{list_all}
use Rattle.outside.specs.Fronts.{front}

-- more before the name that is read
abbrev pub with_front : List ℕ → Option (List ℕ × List ℕ) → Option (List ℕ × List ℕ)
with_front w None = None
with_front w (Some r) = Some (w ++ r.0, r.1)

pub list_all-front : (p : ℕ → Bool) (cs : List ℕ) → list_all p (front p cs) ≡ true
list_all-front p [] = refl
list_all-front p (c ∷ cs) = go (p c) refl (list_all-front p cs)
  where
    go : (b : Bool) → p c ≡ b → list_all p (front p cs) ≡ true → list_all p (if b then c ∷ front p cs else []) ≡ true
    go true e h = ap₂ (λ x y. x && y) e h
    go false e h = refl
