-- Truth values for numbers.
use Rattle.std.specs.Prelude.{◌≡◌, ◌<◌, ◌+◌, ◌||◌, ℕ, zero, suc, Bool, true, false, List, [], ◌∷◌, replicate, length, slice_index_or, refl}
use Rattle.std.proofs.Common.{sym, ap, ap₂, ◌∙◌, arith}
use Rattle.search_spec.specs.Offers.{answers_from}
use Rattle.head_offers.specs.Internal.Marks.{is_flagged}

-- values that are the answers of a test
pub flags-are : (flags : List Bool) (test : ℕ → Bool) (k n : ℕ) → length flags ≡ n → ((i : ℕ) → i < n → slice_index_or flags i false ≡ test (k + i)) → flags ≡ answers_from test k n
flags-are [] test k zero l f = refl
flags-are [] test k (suc n) l f = absurd (omega (arith, l))
flags-are (b ∷ bs) test k zero l f = absurd (omega (arith, l))
flags-are (b ∷ bs) test k (suc n) l f =
    ap₂ (λ (x : Bool) (xs : List Bool). x ∷ xs)
    (f 0 (omega arith) ∙ ap test (let e : k + 0 ≡ k = omega arith in e))
    (flags-are bs test (suc k) n (omega (arith, l)) (λ i h. f (suc i) (omega (arith, h)) ∙ ap test (let e : k + suc i ≡ suc k + i = omega arith in e)))

-- all of them are true
pub all-true : (test : ℕ → Bool) → ((i : ℕ) → test i ≡ true) → (k n : ℕ) → replicate n true ≡ answers_from test k n
all-true test h k zero = refl
all-true test h k (suc n) = ap₂ (λ (x : Bool) (xs : List Bool). x ∷ xs) (sym (h k)) (all-true test h (suc k) n)

-- what is seen, where nothing else is offered
pub seen-are : (flags : List Bool) (unseen : Bool) (occurs : ℕ → Bool) (count n : ℕ) → unseen ≡ false → count ≡ n → length flags ≡ count → ((k : ℕ) → k < count → is_flagged flags k ≡ occurs k) → flags ≡ answers_from (λ k. unseen || occurs k) 0 n
seen-are flags unseen occurs count n none same l f =
    flags-are flags (λ k. unseen || occurs k) 0 n (l ∙ same)
    (λ i h. f i (omega (arith, h, same)) ∙ sym (ap (λ (b : Bool). b || occurs i) none) ∙ ap (λ j. unseen || occurs j) (let e : i ≡ 0 + i = omega arith in e))
