-- What a test keeps of a list.
use Rattle.std.specs.Prelude.{◌≡◌, Bool, true, false, List, [], ◌∷◌, map, filter, All, refl, cond}
use Rattle.std.proofs.Common.{ap, ap₂, ◌∙◌}
use Rattle.std.proofs.lemmas.List.Elements.{All-head, All-tail}

-- tests that agree on each element keep the same
pub filter-agree : {X : Type 0} (p q : X → Bool) (xs : List X) → All (λ x. p x ≡ q x) xs → filter p xs ≡ filter q xs
filter-agree p q [] h = refl
filter-agree p q (x ∷ xs) h =
    ap₂ (λ b ys. cond b (x ∷ ys) ys) (All-head (λ y. p y ≡ q y) x xs h) (filter-agree p q xs (All-tail (λ y. p y ≡ q y) x xs h))

pub map-filter : {X Y : Type 0} (f : X → Y) (q : Y → Bool) (xs : List X) → map f (filter (λ x. q (f x)) xs) ≡ filter q (map f xs)
map-filter f q [] = refl
map-filter f q (x ∷ xs) = go (q (f x)) (map-filter f q xs)
  where
    go : (b : Bool) → map f (filter (λ y. q (f y)) xs) ≡ filter q (map f xs) → map f (cond b (x ∷ filter (λ y. q (f y)) xs) (filter (λ y. q (f y)) xs)) ≡ cond b (f x ∷ filter q (map f xs)) (filter q (map f xs))
    go true e = ap (λ ys. f x ∷ ys) e
    go false e = e

pub filter-none : {X : Type 0} (p : X → Bool) (xs : List X) → ((x : X) → p x ≡ false) → filter p xs ≡ []
filter-none p [] h = refl
filter-none p (x ∷ xs) h = ap (λ b. cond b (x ∷ filter p xs) (filter p xs)) (h x) ∙ filter-none p xs h
