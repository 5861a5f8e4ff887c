-- Lists that grow at their end.
use Rattle.std.proofs.Common.{◌≡◌, ℕ, zero, suc, ◌<◌, List, [], ◌∷◌, ◌++◌, map, length, get_or, slice_get, Some, refl, ap, ap₂}
use Rattle.std.specs.Prelude.{All}
use Rattle.std.proofs.lemmas.Option.{slice_get-get_or, get_or_from_slice_get, same_Some}
use Rattle.stt_core.proofs.ListLaws.{slice_get-append, slice_get-end}
use Rattle.std.proofs.lemmas.List.Elements.{All-head, All-tail}

pub get_or-front : {A : Type 0} (xs ys : List A) (i : ℕ) (d : A) → i < length xs → get_or (xs ++ ys) i d ≡ get_or xs i d
get_or-front xs ys i d h =
    get_or_from_slice_get (xs ++ ys) i (get_or xs i d) d (slice_get-append xs ys i (get_or xs i d) (slice_get-get_or xs i d h))

pub get_or-end : {A : Type 0} (xs : List A) (x d : A) → get_or (xs ++ x ∷ []) (length xs) d ≡ x
get_or-end xs x d = get_or_from_slice_get (xs ++ x ∷ []) (length xs) x d (slice_get-end xs x)

-- an element of a list with one more is an earlier one or the last
pub end_cases : {A : Type 0} (P : Type 0) (xs : List A) (y x : A) (i : ℕ) → slice_get (xs ++ y ∷ []) i ≡ Some x → (slice_get xs i ≡ Some x → P) → (i ≡ length xs → y ≡ x → P) → P
end_cases P [] y x zero h early last = last refl (same_Some y x h)
end_cases P [] y x (suc i) h early last = cc
end_cases P (z ∷ xs) y x zero h early last = early h
end_cases P (z ∷ xs) y x (suc i) h early last = end_cases P xs y x i h early (λ e q. last (ap suc e) q)

-- functions that agree on each element give the same list
pub map-same : {A B : Type 0} (P : A → Type 0) (f g : A → B) → ((x : A) → P x → f x ≡ g x) → (xs : List A) → All P xs → map f xs ≡ map g xs
map-same P f g h [] all = refl
map-same P f g h (x ∷ xs) all = ap₂ (λ y ys. y ∷ ys) (h x (All-head P x xs all)) (map-same P f g h xs (All-tail P x xs all))
