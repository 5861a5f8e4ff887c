-- What holds of each element.
use Rattle.std.specs.Prelude.{◌≡◌, ℕ, zero, suc, List, [], ◌∷◌, ◌++◌, map, slice_get, Some, refl}
use Rattle.std.specs.List.{All, AllByRecursion}
use Rattle.std.proofs.Common.{ap₂, subst}
use Rattle.std.proofs.lemmas.Option.{same_Some}
use Rattle.std.proofs.lemmas.List.Elements.{All-from_recursion, recursion_from_All}
use Rattle.tableau_calculus.specs.Each.{Each}

module _ {X : Type 0} where
  from_recursion : (P : X → Type 0) (xs : List X) → AllByRecursion P xs → Each P xs
  from_recursion P [] h = tt
  from_recursion P (x ∷ xs) h = (h.0, from_recursion P xs h.1)

  by_recursion : (P : X → Type 0) (xs : List X) → Each P xs → AllByRecursion P xs
  by_recursion P [] h = tt
  by_recursion P (x ∷ xs) h = (h.0, by_recursion P xs h.1)

  pub each-from_All : (P : X → Type 0) (xs : List X) → All P xs → Each P xs
  each-from_All P xs h = from_recursion P xs (recursion_from_All P xs h)

  pub All-from_each : (P : X → Type 0) (xs : List X) → Each P xs → All P xs
  All-from_each P xs h = All-from_recursion P xs (by_recursion P xs h)

  pub each-weaker : (P Q : X → Type 0) → ((x : X) → P x → Q x) → (xs : List X) → Each P xs → Each Q xs
  each-weaker P Q f [] h = tt
  each-weaker P Q f (x ∷ xs) h = (f x h.0, each-weaker P Q f xs h.1)

  pub each-both : (P Q : X → Type 0) (xs : List X) → Each P xs → Each Q xs → Each (λ x. P x × Q x) xs
  each-both P Q [] h k = tt
  each-both P Q (x ∷ xs) h k = ((h.0, k.0), each-both P Q xs h.1 k.1)

  pub each-left : (P : X → Type 0) (xs ys : List X) → Each P (xs ++ ys) → Each P xs
  each-left P [] ys h = tt
  each-left P (x ∷ xs) ys h = (h.0, each-left P xs ys h.1)

  pub each-right : (P : X → Type 0) (xs ys : List X) → Each P (xs ++ ys) → Each P ys
  each-right P [] ys h = h
  each-right P (x ∷ xs) ys h = each-right P xs ys h.1

  pub each-last : (P : X → Type 0) (xs : List X) (x : X) → Each P xs → P x → Each P (xs ++ x ∷ [])
  each-last P [] x h k = (k, tt)
  each-last P (y ∷ xs) x h k = (h.0, each-last P xs x h.1 k)

  pub each-between : (P : X → Type 0) (xs : List X) (x : X) (ys : List X) → Each P (xs ++ ys) → P x → Each P (xs ++ x ∷ ys)
  each-between P [] x ys h k = (k, h)
  each-between P (y ∷ xs) x ys h k = (h.0, each-between P xs x ys h.1 k)

  pub each-without : (P : X → Type 0) (xs : List X) (x : X) (ys : List X) → Each P (xs ++ x ∷ ys) → Each P (xs ++ ys)
  each-without P [] x ys h = h.1
  each-without P (y ∷ xs) x ys h = (h.0, each-without P xs x ys h.1)

  pub each-map : {Y : Type 0} (P : Y → Type 0) (f : X → Y) (xs : List X) → Each (λ x. P (f x)) xs → Each P (map f xs)
  each-map P f [] h = tt
  each-map P f (x ∷ xs) h = (h.0, each-map P f xs h.1)

  pub each-unmapped : {Y : Type 0} (P : Y → Type 0) (f : X → Y) (xs : List X) → Each P (map f xs) → Each (λ x. P (f x)) xs
  each-unmapped P f [] h = tt
  each-unmapped P f (x ∷ xs) h = (h.0, each-unmapped P f xs h.1)

  -- functions that agree on each element map to the same
  pub map-same : {Y : Type 0} (f g : X → Y) (P : X → Type 0) → ((x : X) → P x → f x ≡ g x) → (xs : List X) → Each P xs → map f xs ≡ map g xs
  map-same f g P e [] h = refl
  map-same f g P e (x ∷ xs) h = ap₂ (λ y ys. y ∷ ys) (e x h.0) (map-same f g P e xs h.1)

  pub each-at : (P : X → Type 0) (xs : List X) (i : ℕ) (x : X) → Each P xs → slice_get xs i ≡ Some x → P x
  each-at P [] i x h e = cc
  each-at P (y ∷ xs) zero x h e = subst P (same_Some y x e) h.0
  each-at P (y ∷ xs) (suc i) x h e = each-at P xs i x h.1 e
