-- Entries in a bag: one in front, and those of a heap.
use Rattle.std.proofs.Common.{◌≡◌, ℕ, ◌==◌, ◌&&◌, ◌||◌, nat_lt, true, false, List, ◌∷◌, ◌++◌, Option, arith}
use Rattle.std.specs.List.Sorted.{IsPermutation}
use Rattle.std.specs.Ordering.{is_lt, ordering_then, nat_cmp}
use Rattle.std.specs.BinaryHeap.{IsUpperBound, lt_by_cmp}
use Rattle.std.proofs.lemmas.Bool.Decides.{nat_tests}
use Rattle.std.proofs.lemmas.List.Sorted.{IsPermutation-trans, IsPermutation-sym, IsPermutation-middle, IsPermutation-append_right}
use Rattle.command_queue.specs.declared.entry.Entry.{Entry}
use Rattle.command_queue.specs.Queue.{comes_before}
use Rattle.command_queue.specs.Internal.Inside.{heap_order, in_front}
use Rattle.command_queue.proofs.OrderLaws.{all_weaker}

before_by : (d n e m x y : ℕ) → (nat_lt d e || ((d == e) && nat_lt n m)) ≡ true → is_lt (ordering_then (nat_cmp x e) (nat_cmp y m)) ≡ false → is_lt (ordering_then (nat_cmp x d) (nat_cmp y n)) ≡ false
before_by d n e m x y h k = grind (arith, nat_tests)

module _ {C : Type 0} where
  -- an entry joins the heap
  pub joins-heap : (front : Option (Entry C)) (e : Entry C) (xs ys : List (Entry C)) → IsPermutation (e ∷ xs) ys → IsPermutation (e ∷ (in_front front ++ xs)) (in_front front ++ ys)
  joins-heap front e xs ys moved =
      IsPermutation-trans (e ∷ (in_front front ++ xs)) (in_front front ++ e ∷ xs) (in_front front ++ ys)
      (IsPermutation-sym (in_front front ++ e ∷ xs) (e ∷ (in_front front ++ xs)) (IsPermutation-middle (in_front front) e xs))
      (IsPermutation-append_right (in_front front) (e ∷ xs) ys moved)

  -- an entry leaves the heap
  pub leaves-heap : (front : Option (Entry C)) (e : Entry C) (xs ys : List (Entry C)) → IsPermutation xs (e ∷ ys) → IsPermutation (in_front front ++ xs) (e ∷ (in_front front ++ ys))
  leaves-heap front e xs ys moved =
      IsPermutation-trans (in_front front ++ xs) (in_front front ++ e ∷ ys) (e ∷ (in_front front ++ ys))
      (IsPermutation-append_right (in_front front) xs (e ∷ ys) moved)
      (IsPermutation-middle (in_front front) e ys)

  -- an entry that leaves before the top of a heap leaves before all of them
  pub before-top : (e top : Entry C) (xs : List (Entry C)) → comes_before e top ≡ true → IsUpperBound heap_order top xs → IsUpperBound heap_order e xs
  before-top e top xs h above = all_weaker (λ x. lt_by_cmp heap_order top x ≡ false) (λ x. lt_by_cmp heap_order e x ≡ false) (λ x k. before_by e.due e.number top.due top.number x.due x.number h k) xs above
