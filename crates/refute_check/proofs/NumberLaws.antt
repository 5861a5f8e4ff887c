-- Numbers of terms: their places in a list.
use Rattle.std.proofs.Common.{◌≡◌, ℕ, zero, suc, Bool, true, false, List, [], ◌∷◌, Option, Some, None, option_map, map, slice_get, Contains, refl, ap, subst, ◌∙◌, if◌then◌else◌, arith}
use Rattle.stt_core.specs.Lambda.{Lambda}
use Rattle.stt_core.specs.SameTerm.{same_term}
use Rattle.stt_core.proofs.SameTerms.{same_term-true, same_term-of}
use Rattle.tableau_calculus.proofs.ListLaws.{untrue, contains_cases, contains-get}
use Rattle.refute_check.specs.Internal.Numbers.{number_in}

-- a term that has a number stands at its place
pub number_in-at : (ts : List Lambda) (t : Lambda) (k : ℕ) → number_in ts t ≡ Some k → slice_get ts k ≡ Some t
number_in-at [] t k h = cc
number_in-at (u ∷ us) t k h = go (λ j. number_in-at us t j) (same_term u t) refl h
  where
    inside : ((j : ℕ) → number_in us t ≡ Some j → slice_get us j ≡ Some t) → (o : Option ℕ) → number_in us t ≡ o → option_map (λ n. suc n) o ≡ Some k → slice_get (u ∷ us) k ≡ Some t
    inside at None e g = cc
    inside at (Some j) e g = let same : suc j ≡ k = cc in subst (λ n. slice_get (u ∷ us) n ≡ Some t) same (at j e)

    go : ((j : ℕ) → number_in us t ≡ Some j → slice_get us j ≡ Some t) → (b : Bool) → same_term u t ≡ b → (if b then Some 0 else option_map (λ n. suc n) (number_in us t)) ≡ Some k → slice_get (u ∷ us) k ≡ Some t
    go at true e g = let same : 0 ≡ k = cc in subst (λ n. slice_get (u ∷ us) n ≡ Some t) same (ap Some (same_term-true u t e))
    go at false e g = inside at (number_in us t) refl g

-- a term that stands in the list has a number
number_in-none : (ts : List Lambda) (t : Lambda) → number_in ts t ≡ None → Contains ts t → ⊥
number_in-none [] t h c = absurd (omega (arith, c.1))
number_in-none (u ∷ ts) t h c = go (λ g. number_in-none ts t g) (same_term u t) (number_in ts t) refl refl h
  where
    go : ((number_in ts t ≡ None) → Contains ts t → ⊥) → (b : Bool) (o : Option ℕ) → same_term u t ≡ b → number_in ts t ≡ o → (if b then Some 0 else option_map (λ n. suc n) o) ≡ None → ⊥
    go more true o e d g = cc
    go more false (Some k) e d g = cc
    go more false None e d g = contains_cases ⊥ t u ts c (λ same. untrue (same_term-of u t same) e) (more d)

-- the number of a term that stands at no other place
pub number_in-only : (ts : List Lambda) (t : Lambda) (k : ℕ) → slice_get ts k ≡ Some t → ((j : ℕ) → slice_get ts j ≡ Some t → j ≡ k) → number_in ts t ≡ Some k
number_in-only ts t k at only = go (number_in ts t) refl
  where
    go : (o : Option ℕ) → number_in ts t ≡ o → number_in ts t ≡ Some k
    go None e = absurd (number_in-none ts t e (contains-get ts k t at))
    go (Some j) e = e ∙ ap Some (only j (number_in-at ts t j e))

pub mapped_at : {A B : Type 0} (f : A → B) (xs : List A) (k : ℕ) (y : B) → slice_get (map f xs) k ≡ Some y → (x : A) × (slice_get xs k ≡ Some x) × (f x ≡ y)
mapped_at f [] k y h = cc
mapped_at f (x ∷ xs) zero y h = (x, refl, cc)
mapped_at f (x ∷ xs) (suc k) y h = mapped_at f xs k y h
