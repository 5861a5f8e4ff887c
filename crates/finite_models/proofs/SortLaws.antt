-- The order of the formulas doesn't matter.
use Rattle.std.proofs.Common.{◌≡◌, ℕ, zero, suc, ◌<◌, List, [], ◌∷◌, length, slice_get, slice_index_or, Some, Bool, refl, subst, arith}
use Rattle.std.specs.List.{All}
use Rattle.std.specs.List.Sorted.{IsPermutation}
use Rattle.std.proofs.lemmas.List.Sorted.{All-permutation, IsPermutation-sym}
use Rattle.finite_models.specs.Internal.Worth.{worth, IsSafe}
use Rattle.finite_models.specs.Internal.Search.{PassesAll, AreReady, IsFirstPassing, reach_of}
use Rattle.finite_models.specs.declared.search.Check.{Check}

some_at : {A : Type 0} (xs : List A) (k : ℕ) (d : A) → k < length xs → slice_get xs k ≡ Some (slice_index_or xs k d)
some_at [] k d l = absurd (omega arith)
some_at (x ∷ xs) zero d l = refl
some_at (x ∷ xs) (suc k) d l = some_at xs k d (omega arith)

index_of : {A : Type 0} (xs : List A) (k : ℕ) (d x : A) → slice_get xs k ≡ Some x → slice_index_or xs k d ≡ x
index_of [] k d x g = cc
index_of (y ∷ xs) zero d x g = cc
index_of (y ∷ xs) (suc k) d x g = index_of xs k d x g

within : {A : Type 0} (xs : List A) (k : ℕ) (x : A) → slice_get xs k ≡ Some x → k < length xs
within [] k x g = cc
within (y ∷ xs) zero x g = omega arith
within (y ∷ xs) (suc k) x g = omega (arith, within xs k x g)

-- what holds of each item holds of each item of the sorted list
each_sorted : (P : Check → Type 0) (xs ys : List Check) → IsPermutation xs ys → ((k : ℕ) (c : Check) → slice_get xs k ≡ Some c → P c) → (k : ℕ) (c : Check) → slice_get ys k ≡ Some c → P c
each_sorted P xs ys p h k c g =
    let all : All P xs = λ i d m. h i (slice_index_or xs i d) (some_at xs i d m) in
    let q : All P ys = All-permutation P xs ys p all in
    subst P (index_of ys k c c g) (q k c (within ys k c g))

pub passes_sorted : (xs ys : List Check) (vs : List ℕ) → IsPermutation xs ys → PassesAll xs vs → PassesAll ys vs
passes_sorted xs ys vs p h = each_sorted (λ c. worth c.expr vs [] ≡ c.wanted) xs ys p h

pub ready_sorted : (xs ys : List Check) (vs : List ℕ) → IsPermutation xs ys → AreReady xs vs → AreReady ys vs
ready_sorted xs ys vs p h = each_sorted (λ c. IsSafe c.expr vs [] × (c.reach ≡ reach_of c.expr)) xs ys p h

pub none_sorted : (xs ys : List Check) → IsPermutation xs ys → (A : List ℕ → Type 0) → ((ws : List ℕ) → A ws → PassesAll ys ws → ⊥) → (ws : List ℕ) → A ws → PassesAll xs ws → ⊥
none_sorted xs ys p A h ws a k = h ws a (passes_sorted xs ys ws p k)

pub first_of_sorted : (xs ys : List Check) (ds : List (List Bool)) (vs : List ℕ) → IsPermutation xs ys → IsFirstPassing ds ys vs → IsFirstPassing ds xs vs
first_of_sorted xs ys ds vs p h = record {
  allowed = h.allowed;
  passes = passes_sorted ys xs vs (IsPermutation-sym xs ys p) h.passes;
  first = λ ws a e k. h.first ws a e (passes_sorted xs ys ws p k);
}
