-- Lists joined end to end, up to a place and there.
use Rattle.std.proofs.Common.{◌≡◌, ℕ, ◌+◌, ◌<◌, ◌≤◌, List, [], ◌∷◌, ◌++◌, length, map, take, drop, get_or, sym, ap, ◌∙◌, append_assoc, append-nil}
use Rattle.std.specs.List.{flat_map}
use Rattle.std.proofs.lemmas.Grind.{flat_map-append}
use Rattle.std.proofs.lemmas.List.Folds.{flat_map-map}
use Rattle.std.proofs.lemmas.List.{take_more, take_all, take-append-drop}

-- one member more
pub flat_map-take_more : {X : Type 0} (f : X → List ℕ) (xs : List X) (i : ℕ) (x d : X) → i < length xs → x ≡ get_or xs i d → flat_map f (take (i + 1) xs) ≡ flat_map f (take i xs) ++ f x
flat_map-take_more f xs i x d within is =
    ap (flat_map f) (take_more xs i d within)
    ∙ flat_map-append f (take i xs) (get_or xs i d ∷ [])
    ∙ ap (λ t. flat_map f (take i xs) ++ t) (append-nil (f (get_or xs i d)) ∙ ap f (sym is))

-- the members before a place, the member there, and the rest
pub flat_map_around : {X : Type 0} (f : X → List ℕ) (xs : List X) (i : ℕ) (x d : X) → i < length xs → x ≡ get_or xs i d → flat_map f xs ≡ flat_map f (take i xs) ++ (f x ++ flat_map f (drop (i + 1) xs))
flat_map_around f xs i x d within is =
    ap (flat_map f) (sym (take-append-drop (i + 1) xs))
    ∙ flat_map-append f (take (i + 1) xs) (drop (i + 1) xs)
    ∙ ap (λ t. t ++ flat_map f (drop (i + 1) xs)) (flat_map-take_more f xs i x d within is)
    ∙ append_assoc (flat_map f (take i xs)) (f x) (flat_map f (drop (i + 1) xs))

pub flat_map-take_all : {X : Type 0} (f : X → List ℕ) (xs : List X) (n : ℕ) → length xs ≤ n → flat_map f (take n xs) ≡ flat_map f xs
flat_map-take_all f xs n h = ap (flat_map f) (take_all n xs h)

pub flat_map-map_map : {X Y : Type 0} (h : List ℕ → List ℕ) (v : Y → List ℕ) (w : X → Y) (xs : List X) → flat_map h (map v (map w xs)) ≡ flat_map (λ x. h (v (w x))) xs
flat_map-map_map h v w xs = flat_map-map h v (map w xs) ∙ flat_map-map (λ y. h (v y)) w xs
