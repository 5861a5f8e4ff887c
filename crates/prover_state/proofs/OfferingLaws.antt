-- Numbers of what is offered, one after the other.
use Rattle.std.specs.Prelude.{◌≡◌, ◌+◌, ◌-◌, ◌<◌, nat_eq, ℕ, suc, Bool, true, false, List, [], ◌∷◌, ◌++◌, map, filter, drop, slice_get, Some, refl, if◌then◌else◌}
use Rattle.std.proofs.Common.{sym, ap, ◌∙◌, arith, append_assoc}
use Rattle.stt_core.specs.SimpleType.{SimpleType, base, target}
use Rattle.stt_core.proofs.ListLaws.{map-append, drop_got}
use Rattle.search_spec.specs.Heads.{places_to, bases_from}

-- an element that passes a test, and one that doesn't
filter-passed : {X : Type 0} (P : X → Bool) (x : X) (xs : List X) → P x ≡ true → filter P (x ∷ xs) ≡ x ∷ filter P xs
filter-passed P x xs e = ap (λ (b : Bool). if b then x ∷ filter P xs else filter P xs) e

filter-left : {X : Type 0} (P : X → Bool) (x : X) (xs : List X) → P x ≡ false → filter P (x ∷ xs) ≡ filter P xs
filter-left P x xs e = ap (λ (b : Bool). if b then x ∷ filter P xs else filter P xs) e

-- NAMES

module _ (P : ℕ → Bool) (b i : ℕ) (types : List SimpleType) (a : SimpleType) (at : slice_get types i ≡ Some a) where
  abbrev left : List ℕ
  left = places_to b (i + 1) (drop (i + 1) types)

  places_are : places_to b i (drop i types) ≡ (if nat_eq (target a) b then i ∷ left else left)
  places_are =
      ap (places_to b i) (drop_got types i a at)
      ∙ ap (λ n. if nat_eq (target a) b then i ∷ places_to b n (drop (i + 1) types) else places_to b n (drop (i + 1) types)) (let n : suc i ≡ i + 1 = omega arith in n)

  -- a name that is offered is listed where it fits
  pub offered-step : (old new : List ℕ) → P i ≡ true → new ≡ (if nat_eq (target a) b then old ++ i ∷ [] else old) → new ++ filter P left ≡ old ++ filter P (places_to b i (drop i types))
  offered-step old new e is = ap (λ (xs : List ℕ). xs ++ filter P left) is ∙ go (nat_eq (target a) b) ∙ ap (λ (xs : List ℕ). old ++ filter P xs) (sym places_are)
    where
      go : (f : Bool) → (if f then old ++ i ∷ [] else old) ++ filter P left ≡ old ++ filter P (if f then i ∷ left else left)
      go true = append_assoc old (i ∷ []) (filter P left) ∙ ap (λ (xs : List ℕ). old ++ xs) (sym (filter-passed P i left e))
      go false = refl

  -- one that isn't offered isn't
  pub unoffered-step : (old : List ℕ) → P i ≡ false → old ++ filter P left ≡ old ++ filter P (places_to b i (drop i types))
  unoffered-step old e = go (nat_eq (target a) b) ∙ ap (λ (xs : List ℕ). old ++ filter P xs) (sym places_are)
    where
      go : (f : Bool) → old ++ filter P left ≡ old ++ filter P (if f then i ∷ left else left)
      go true = ap (λ (xs : List ℕ). old ++ xs) (sym (filter-left P i left e))
      go false = refl

-- BASE TYPES

module _ (P : SimpleType → Bool) (i m : ℕ) (within : i < m) where
  abbrev later : List SimpleType
  later = bases_from (i + 1 + 1) (m - (i + 1))

  bases_are : bases_from (i + 1) (m - i) ≡ base (i + 1) ∷ later
  bases_are =
      ap (bases_from (i + 1)) (let n : m - i ≡ suc (m - (i + 1)) = omega (arith, within) in n)
      ∙ ap (λ k. base (i + 1) ∷ bases_from k (m - (i + 1))) (let k : suc (i + 1) ≡ i + 1 + 1 = omega arith in k)

  pub base-offered : (old new : List ℕ) (n : ℕ) → n ≡ i + 1 → P (base n) ≡ true → new ≡ old ++ n ∷ [] → map base new ++ filter P later ≡ map base old ++ filter P (bases_from (i + 1) (m - i))
  base-offered old new n same e is =
      ap (λ (xs : List ℕ). map base xs ++ filter P later) is
      ∙ ap (λ (xs : List SimpleType). xs ++ filter P later) (map-append base old (n ∷ []))
      ∙ append_assoc (map base old) (base n ∷ []) (filter P later)
      ∙ ap (λ (xs : List SimpleType). map base old ++ xs) (sym (filter-passed P (base n) later e))
      ∙ ap (λ k. map base old ++ filter P (base k ∷ later)) same
      ∙ ap (λ (xs : List SimpleType). map base old ++ filter P xs) (sym bases_are)

  pub base-unoffered : (old : List ℕ) (n : ℕ) → n ≡ i + 1 → P (base n) ≡ false → map base old ++ filter P later ≡ map base old ++ filter P (bases_from (i + 1) (m - i))
  base-unoffered old n same e =
      ap (λ (xs : List SimpleType). map base old ++ xs) (sym (filter-left P (base n) later e))
      ∙ ap (λ k. map base old ++ filter P (base k ∷ later)) same
      ∙ ap (λ (xs : List SimpleType). map base old ++ filter P xs) (sym bases_are)
