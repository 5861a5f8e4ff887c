-- The names of definitions, compared place by place.
use Rattle.std.proofs.Common.{◌≡◌, ◌<◌, ◌≤◌, ◌⊎◌, inl, inr, ℕ, ◌+◌, zero, suc, List, [], ◌∷◌, ◌++◌, Some, length, take, slice_get, refl, sym, ap, ap₂, subst, ◌∙◌, arith, take_all}
use Rattle.std.specs.List.{AllByRecursion}
use Rattle.std.proofs.lemmas.Bool.{cases_lt}
use Rattle.stt_core.proofs.ListLaws.{take_got}
use Rattle.refute_check.specs.Acceptance.{DifferFirst}

pub declared_at : (limit : ℕ) (ks : List ℕ) (i k : ℕ) → AllByRecursion (λ j. j < limit) ks → slice_get ks i ≡ Some k → k < limit
declared_at limit [] i k h e = cc
declared_at limit (j ∷ ks) zero k h e = let same : j ≡ k = cc in subst (λ x. x < limit) same h.0
declared_at limit (j ∷ ks) (suc i) k h e = declared_at limit ks i k h.1 e

pub nothing_there : {A : Type 0} (xs : List A) (i : ℕ) (x : A) → length xs ≤ i → slice_get xs i ≡ Some x → ⊥
nothing_there [] i x h e = cc
nothing_there (y ∷ xs) zero x h e = absurd (omega (arith, h))
nothing_there (y ∷ xs) (suc i) x h e = nothing_there xs i x (omega (arith, h)) e

module _ (names taken : List (List ℕ)) where
  pub differ_here : (i : ℕ) (name : List ℕ) → take i names ≡ take i taken → slice_get names i ≡ Some name → (slice_get taken i ≡ Some name → ⊥) → DifferFirst names taken i
  differ_here i name same at apart = record { same = same; other = λ e. apart (sym e ∙ at) }

  pub same_further : (i : ℕ) (name : List ℕ) → take i names ≡ take i taken → slice_get names i ≡ Some name → slice_get taken i ≡ Some name → take (i + 1) names ≡ take (i + 1) taken
  same_further i name same at there = take_got names i name at ∙ ap (λ l. l ++ name ∷ []) same ∙ sym (take_got taken i name there)

took_there : (xs : List (List ℕ)) (m n : ℕ) → m < n → slice_get (take n xs) m ≡ slice_get xs m
took_there [] m zero h = refl
took_there [] m (suc n) h = refl
took_there (x ∷ xs) zero zero h = absurd (omega (arith, h))
took_there (x ∷ xs) zero (suc n) h = refl
took_there (x ∷ xs) (suc m) zero h = absurd (omega (arith, h))
took_there (x ∷ xs) (suc m) (suc n) h = took_there xs m n (omega (arith, h))

-- two lists differ first at one place
not_before : (names taken : List (List ℕ)) (i k : ℕ) → DifferFirst names taken i → DifferFirst names taken k → i < k → ⊥
not_before names taken i k d e h = d.other (sym (took_there names i k h) ∙ ap (λ l. slice_get l i) e.same ∙ took_there taken i k h)

pub differ_once : (names taken : List (List ℕ)) (i k : ℕ) → DifferFirst names taken i → DifferFirst names taken k → i ≡ k
differ_once names taken i k d e = go (cases_lt i k) (cases_lt k i)
  where
    go : (i < k) ⊎ (k ≤ i) → (k < i) ⊎ (i ≤ k) → i ≡ k
    go (inl a) b = absurd (not_before names taken i k d e a)
    go (inr a) (inl b) = absurd (not_before names taken k i e d b)
    go (inr a) (inr b) = omega (arith, a, b)

differ_behind : (names taken : List (List ℕ)) → names ≡ take (length names) taken → (length names ≡ length taken → ⊥) → DifferFirst names taken (length names)
differ_behind [] [] e h = absurd (h refl)
differ_behind [] (v ∷ taken) e h = record { same = refl; other = λ k. cc }
differ_behind (w ∷ names) [] e h = cc
differ_behind (w ∷ names) (v ∷ taken) e h =
    let first : w ≡ v = cc in
    let tail : names ≡ take (length names) taken = cc in
    let rest = differ_behind names taken tail (λ k. h (ap suc k)) in
    record { same = ap₂ (λ x y. x ∷ y) first rest.same; other = rest.other }

-- where all names are the same, and there are as many
pub same_whole : (names taken : List (List ℕ)) (i : ℕ) → take i names ≡ take i taken → length names ≤ i → length names ≡ length taken → names ≡ taken
same_whole names taken i same h e = sym (take_all i names h) ∙ same ∙ take_all i taken (omega (arith, h, e))

pub differ_in_length : (names taken : List (List ℕ)) (i : ℕ) → take i names ≡ take i taken → i ≡ length names → (length names ≡ length taken → ⊥) → DifferFirst names taken (length names)
differ_in_length names taken i same e h =
    differ_behind names taken (sym (take_all i names (omega (arith, e))) ∙ same ∙ ap (λ n. take n taken) e) h
