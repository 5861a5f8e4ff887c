-- Facts about lists of literals.
use Rattle.std.proofs.Common.{◌≡◌, ◌≢◌, ◌⊎◌, inl, inr, ◌<◌, ◌+◌, ◌-◌, ℕ, zero, suc, ◌||◌, true, false, List, [], ◌∷◌, ◌++◌, Some, map, length, take, drop, get_or, set, refl, sym, ap, ◌∙◌, arith, length-set, length-append, length-drop}
use Rattle.std.specs.List.{slice_get, swap_remove}
use Rattle.std.proofs.lemmas.Option.{slice_get_within, get_or_from_slice_get}
use Rattle.std.proofs.lemmas.Bool.{false≢true, or_cases, or_left, or_right, false_from_ne_true, cases_order}
use Rattle.std.proofs.lemmas.List.{take_more, take_all, length-take-le, take-append-drop}
use Rattle.sat_base.specs.declared.literal.SatLit.{SatLit}
use Rattle.sat_base.specs.Literal.{negated, same_literal, holds, mentions_variable}
use Rattle.sat_base.proofs.LiteralLaws.{holds-append, same_literal-true}
use Rattle.sat_log.proofs.VariableLaws.{mentioned_as}

-- what is among one more literal is among those before, or is that one
pub held_more : (xs : List SatLit) (i : ℕ) (d l : SatLit) → i < length xs → holds (take (i + 1) xs) l ≡ true → (holds (take i xs) l ≡ true) ⊎ (l ≡ get_or xs i d)
held_more xs i d l h t =
    elim (or_cases (holds (take i xs) l) (same_literal l (get_or xs i d) || false)
    (sym (holds-append (take i xs) (get_or xs i d ∷ []) l) ∙ ap (λ (some : List SatLit). holds some l) (sym (take_more xs i d h)) ∙ t)) [
      | inl before ↦ inl before
      | inr last ↦ elim (or_cases (same_literal l (get_or xs i d)) false last) [
        | inl same ↦ inr (same_literal-true l (get_or xs i d) same)
        | inr never ↦ absurd (false≢true never)
      ]
    ]

-- what is among the first literals or among those after them is among all, and nothing else is
split : (n : ℕ) (xs : List SatLit) (l : SatLit) → holds xs l ≡ (holds (take n xs) l || holds (drop n xs) l)
split n xs l = ap (λ (some : List SatLit). holds some l) (sym (take-append-drop n xs)) ∙ holds-append (take n xs) (drop n xs) l

pub held_take : (n : ℕ) (xs : List SatLit) (l : SatLit) → holds (take n xs) l ≡ true → holds xs l ≡ true
held_take n xs l h = split n xs l ∙ or_left _ _ h

pub held_drop : (n : ℕ) (xs : List SatLit) (l : SatLit) → holds (drop n xs) l ≡ true → holds xs l ≡ true
held_drop n xs l h = split n xs l ∙ or_right _ _ h

pub held_parts : (n : ℕ) (xs : List SatLit) (l : SatLit) → holds xs l ≡ true → (holds (take n xs) l ≡ true) ⊎ (holds (drop n xs) l ≡ true)
held_parts n xs l h = or_cases (holds (take n xs) l) (holds (drop n xs) l) (sym (split n xs l) ∙ h)

-- a slice up to the end
pub from_on : {X : Type 0} (n : ℕ) (xs : List X) → take (length xs - n) (drop n xs) ≡ drop n xs
from_on n xs = take_all (length xs - n) (drop n xs) (omega (arith, length-drop n xs))

-- the literal that stands for one past the end of a list
abbrev pub no_literal : SatLit
no_literal = record { var = record { 0 = 0 }; positive = false }

-- elements after a write, and after the last one was put in the place of another

pub get-set_same : {X : Type 0} (xs : List X) (i : ℕ) (y : X) → i < length xs → slice_get (set xs i y) i ≡ Some y
get-set_same [] i y h = absurd (omega arith)
get-set_same (x ∷ xs) zero y h = refl
get-set_same (x ∷ xs) (suc i) y h = get-set_same xs i y (omega arith)

pub get-set_other : {X : Type 0} (xs : List X) (i k : ℕ) (y : X) → k ≢ i → slice_get (set xs i y) k ≡ slice_get xs k
get-set_other [] i k y h = refl
get-set_other (x ∷ xs) zero zero y h = absurd (h refl)
get-set_other (x ∷ xs) zero (suc k) y h = refl
get-set_other (x ∷ xs) (suc i) zero y h = refl
get-set_other (x ∷ xs) (suc i) (suc k) y h = get-set_other xs i k y (λ e. h (ap suc e))

pub get-take : {X : Type 0} (n : ℕ) (xs : List X) (k : ℕ) → k < n → slice_get (take n xs) k ≡ slice_get xs k
get-take zero xs k h = absurd (omega arith)
get-take (suc n) [] k h = refl
get-take (suc n) (x ∷ xs) zero h = refl
get-take (suc n) (x ∷ xs) (suc k) h = get-take n xs k (omega arith)

pub get-swap_remove_before : {X : Type 0} (xs : List X) (i k : ℕ) (d : X) → k < i → i < length xs → slice_get (swap_remove xs i d) k ≡ slice_get xs k
get-swap_remove_before xs i k d before inside =
    let short : k < length xs - 1 = omega arith in
    let apart : k ≢ i = omega arith in
    get-take (length xs - 1) (set xs i (get_or xs (length xs - 1) d)) k short ∙ get-set_other xs i k (get_or xs (length xs - 1) d) apart

-- each other element is still there
pub kept-swap_remove : {X : Type 0} (xs : List X) (i j : ℕ) (d e : X) → i < length xs → j ≢ i → slice_get xs j ≡ Some e → (k : ℕ) × (slice_get (swap_remove xs i d) k ≡ Some e)
kept-swap_remove xs i j d e inside apart at =
    let within : j < length xs = slice_get_within xs j e at in
    elim (cases_order j (length xs - 1)) [
      | inl end ↦
          let short : i < length xs - 1 = omega arith in
          let last : get_or xs (length xs - 1) d ≡ e = ap (λ (k : ℕ). get_or xs k d) (sym end) ∙ get_or_from_slice_get xs j e d at in
          (i, get-take (length xs - 1) (set xs i (get_or xs (length xs - 1) d)) i short ∙ get-set_same xs i (get_or xs (length xs - 1) d) inside ∙ ap Some last)
      | inr other ↦ elim other [
        | inl before ↦ (j, get-take (length xs - 1) (set xs i (get_or xs (length xs - 1) d)) j before ∙ get-set_other xs i j (get_or xs (length xs - 1) d) apart ∙ at)
        | inr after ↦ absurd (omega arith)
      ]
    ]

pub length-swap_remove : {X : Type 0} (xs : List X) (i : ℕ) (d : X) → i < length xs → length (swap_remove xs i d) + 1 ≡ length xs
length-swap_remove xs i d inside =
    omega (arith, length-take-le (length xs - 1) (set xs i (get_or xs (length xs - 1) d)) (omega (arith, length-set xs i (get_or xs (length xs - 1) d))))

-- there is nothing past one more element
pub get-past_seam : {X : Type 0} (xs : List X) (y : X) (n : ℕ) (x : X) → length xs < n → slice_get (xs ++ y ∷ []) n ≡ Some x → ⊥
get-past_seam xs y n x h at =
    let inside : n < length (xs ++ y ∷ []) = slice_get_within (xs ++ y ∷ []) n x at in
    let long : length (xs ++ y ∷ []) ≡ length xs + 1 = length-append xs (y ∷ []) in
    omega arith

-- a write of an element that looks the same changes no looks
pub map-set_same : {X Y : Type 0} (f : X → Y) (xs : List X) (i : ℕ) (x y : X) → slice_get xs i ≡ Some x → f y ≡ f x → map f (set xs i y) ≡ map f xs
map-set_same {Y = Y} f [] i x y at e = refl
map-set_same {Y = Y} f (z ∷ xs) zero x y at e = let same : z ≡ x = cc in ap (λ (k : Y). k ∷ map f xs) (e ∙ ap f (sym same))
map-set_same {Y = Y} f (z ∷ xs) (suc i) x y at e = ap (λ (ks : List Y). f z ∷ ks) (map-set_same f xs i x y at e)

-- a variable is not mentioned whose two literals are not held
pub unmentioned : (some : List SatLit) (l : SatLit) → holds some l ≡ false → holds some (negated l) ≡ false → mentions_variable some l.var ≡ false
unmentioned some l untrue undenied =
    false_from_ne_true (mentions_variable some l.var) (λ t. elim (mentioned_as some l t) [
      | inl h ↦ false≢true (sym untrue ∙ h)
      | inr h ↦ false≢true (sym undenied ∙ h)
    ])
