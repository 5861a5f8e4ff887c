-- Ascending places, and where they reach a number.
use Rattle.std.specs.Prelude.{◌≡◌, ◌<◌, ◌≤◌, ◌+◌, nat_eq, ℕ, zero, suc, Bool, true, false, List, [], ◌∷◌, drop, get_or, length, if◌then◌else◌}
use Rattle.std.specs.List.Sorted.{IsNonDecreasingBy, IsPartitionPoint}
use Rattle.std.proofs.Common.{ltb, ltb-true, ltb-false, arith}
use Rattle.stt_core.specs.SimpleType.{SimpleType, target}
use Rattle.tableau_calculus.specs.Each.{Each}
use Rattle.search_spec.specs.Heads.{places_to}
use Rattle.prover_state.specs.Internal.Fitting.{SplitsAt}
use Rattle.prover_state.proofs.FittingLaws.{places-range}

above : (m u : ℕ) (ys : List ℕ) (j d : ℕ) → Each (λ x. (m ≤ x) × (x < u)) ys → j < length ys → m ≤ get_or ys j d
above m u [] j d h l = absurd (omega (arith, l))
above m u (y ∷ ys) zero d h l = h.0.0
above m u (y ∷ ys) (suc j) d h l = above m u ys j d h.1 (omega (arith, l))

one_before : (k u : ℕ) (ys : List ℕ) → Each (λ x. (suc k ≤ x) × (x < u)) ys → IsNonDecreasingBy (λ i. i) ys → IsNonDecreasingBy (λ i. i) (k ∷ ys)
one_before k u ys range rest zero zero d le lt = omega arith
one_before k u ys range rest zero (suc j) d le lt = let a = above (suc k) u ys j d range (omega (arith, lt)) in omega (arith, a)
one_before k u ys range rest (suc i) zero d le lt = absurd (omega (arith, le))
one_before k u ys range rest (suc i) (suc j) d le lt = rest i j d (omega (arith, le)) (omega (arith, lt))

-- places by a target type ascend
pub places-ascend : (b k : ℕ) (types : List SimpleType) → IsNonDecreasingBy (λ i. i) (places_to b k types)
places-ascend b k [] = λ i j d le lt. absurd (omega (arith, lt))
places-ascend b k (x ∷ xs) = go (nat_eq (target x) b) (places-ascend b (suc k) xs)
  where
    go : (c : Bool) → IsNonDecreasingBy (λ i. i) (places_to b (suc k) xs) → IsNonDecreasingBy (λ i. i) (if c then k ∷ places_to b (suc k) xs else places_to b (suc k) xs)
    go true rest = one_before k (suc k + length xs) (places_to b (suc k) xs) (places-range b (suc k) xs) rest
    go false rest = rest

each_from : (n : ℕ) (xs : List ℕ) (k : ℕ) → ((i : ℕ) → k ≤ i → i < length xs → n ≤ get_or xs i 0) → Each (λ x. n ≤ x) (drop k xs)
each_from n [] zero h = tt
each_from n [] (suc k) h = tt
each_from n (x ∷ xs) zero h = (h 0 (omega arith) (omega arith), each_from n xs zero (λ i a b. h (suc i) (omega arith) (omega (arith, b))))
each_from n (x ∷ xs) (suc k) h = each_from n xs k (λ i a b. h (suc i) (omega (arith, a)) (omega (arith, b)))

-- where the test for a number below turns false
pub splits-from : (n : ℕ) (xs : List ℕ) (k : ℕ) → k ≤ length xs → IsPartitionPoint (λ y. ltb y n ≡ true) (λ y. ltb y n ≡ false) xs k → SplitsAt n xs k
splits-from n xs k h p = record {
  within = h;
  behind = each_from n xs k (λ i a b. let e = ltb-false (get_or xs i 0) n (p.1 i 0 a b) in omega (arith, e));
  before = λ i e. let l = ltb-true (get_or xs i 0) n (p.0 i 0 (omega arith) (omega (arith, e))) in omega (arith, l);
}
