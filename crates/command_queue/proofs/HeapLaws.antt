-- What an agenda's entries keep, as entries join and leave.
use Rattle.std.proofs.Common.{◌≡◌, ◌≢◌, ℕ, suc, ◌<◌, ◌≤◌, ◌+◌, ◌==◌, false, List, [], ◌∷◌, ◌++◌, length, sym, ap, subst, arith}
use Rattle.std.specs.List.{All, AllByRecursion, IsDistinct}
use Rattle.std.specs.List.Sorted.{IsPermutation}
use Rattle.std.specs.BinaryHeap.{IsUpperBound, lt_by_cmp}
use Rattle.std.proofs.lemmas.Bool.Decides.{nat_tests}
use Rattle.std.proofs.lemmas.List.Elements.{All-nil, All-cons, All-tail, All-weaker, All-from_recursion, recursion_from_All}
use Rattle.std.proofs.lemmas.List.Sorted.{All-permutation, length_permutation}
use Rattle.std.proofs.lemmas.Map.Keys.{IsDistinct-tail, IsDistinct-head, IsDistinct-cons}
use Rattle.command_queue.specs.declared.entry.Entry.{Entry}
use Rattle.command_queue.specs.Queue.{IsBefore, AreNumbered}
use Rattle.command_queue.specs.Internal.Inside.{entries_in_order, heap_order, HasOwnNumbers, HoldsPushed}
use Rattle.command_queue.proofs.OrderLaws.{StandsByNumber, in_order-push, in_order-push_at, length-in_order, all_both, all_weaker, all-in_order, all-from_in_order, leaves_first, IsAscending-in_order, AllPairs-ascending, HasOwnNumbers-push, HasOwnNumbers-IsPermutation}

differs : (a b : ℕ) → (a == b) ≡ false → b ≢ a
differs a b h e = grind (arith, nat_tests, h, e)

is_other : (a b : ℕ) → b ≢ a → (a == b) ≡ false
is_other a b h = grind (arith, nat_tests, h)

none_own : (C : Type 0) → HasOwnNumbers {C = C} []
unfolding IsDistinct
none_own C = tt

module _ {C : Type 0} where
  pub HoldsPushed-none : (xs : List (Entry C)) → xs ≡ [] → HoldsPushed xs 0
  HoldsPushed-none xs e = record {
    numbered = subst (All (λ (x : Entry C). x.number < 0)) (sym e) (All-nil _);
    distinct = subst HasOwnNumbers (sym e) (none_own C);
  }

  -- an entry with a number of its own joins, and numbers below an end are taken
  HoldsPushed-join : (e : Entry C) (xs ys : List (Entry C)) (pushes end : ℕ) → HoldsPushed xs pushes → pushes ≤ end → e.number < end → HasOwnNumbers (e ∷ xs) → IsPermutation (e ∷ xs) ys → HoldsPushed ys end
  HoldsPushed-join e xs ys pushes end held more taken own moved =
      let wider : All (λ (x : Entry C). x.number < end) xs = All-weaker (λ (x : Entry C). x.number < pushes) (λ (x : Entry C). x.number < end) (λ x h. omega (arith, h, more)) xs held.numbered in
      record {
        numbered = All-permutation (λ (x : Entry C). x.number < end) (e ∷ xs) ys moved (All-cons (λ (x : Entry C). x.number < end) e xs taken wider);
        distinct = HasOwnNumbers-IsPermutation (e ∷ xs) ys moved own;
      }

  pub HoldsPushed-push : (e : Entry C) (xs ys : List (Entry C)) (pushes numbers : ℕ) → HoldsPushed xs pushes → e.number ≡ pushes → 0 < numbers → IsPermutation (e ∷ xs) ys → HoldsPushed ys (pushes + numbers)
  HoldsPushed-push e xs ys pushes numbers held is some moved =
      let below : All (λ (x : Entry C). x.number < e.number) xs = subst (λ (n : ℕ). All (λ (x : Entry C). x.number < n) xs) (sym is) held.numbered in
      let own : HasOwnNumbers (e ∷ xs) = HasOwnNumbers-push e xs (recursion_from_All (λ (x : Entry C). x.number < e.number) xs below) held.distinct in
      HoldsPushed-join e xs ys pushes (pushes + numbers) held (omega arith) (omega (arith, is, some)) own moved

  -- no entry of a heap has this number, where none of the entries by their numbers has it
  own_number : (e : Entry C) (xs : List (Entry C)) → All (λ x. x.number ≢ e.number) (entries_in_order xs) → AllByRecursion (λ (x : Entry C). (e.number == x.number) ≡ false) xs
  own_number e xs free =
      all_weaker (λ x. x.number ≢ e.number) (λ (x : Entry C). (e.number == x.number) ≡ false) (λ x h. is_other e.number x.number h) xs
      (all-from_in_order (λ x. x.number ≢ e.number) xs (recursion_from_All (λ x. x.number ≢ e.number) (entries_in_order xs) free))

  pub HoldsPushed-push_at : (e : Entry C) (xs ys : List (Entry C)) (pushes : ℕ) → HoldsPushed xs pushes → e.number < pushes → All (λ x. x.number ≢ e.number) (entries_in_order xs) → IsPermutation (e ∷ xs) ys → HoldsPushed ys pushes
  HoldsPushed-push_at e xs ys pushes held taken free moved =
      HoldsPushed-join e xs ys pushes pushes held (omega arith) taken (IsDistinct-cons (λ a b. a.number == b.number) e xs (own_number e xs free) held.distinct) moved

  pub joins_at : (e : Entry C) (xs ys : List (Entry C)) (pushes : ℕ) → HoldsPushed xs pushes → All (λ x. x.number ≢ e.number) (entries_in_order xs) → IsPermutation (e ∷ xs) ys → StandsByNumber e (entries_in_order xs) (entries_in_order ys)
  joins_at e xs ys pushes held free moved = in_order-push_at e xs ys moved held.distinct (own_number e xs free)

  pub HoldsPushed-AreNumbered : (xs : List (Entry C)) (pushes : ℕ) → HoldsPushed xs pushes → AreNumbered (entries_in_order xs) pushes
  HoldsPushed-AreNumbered xs pushes held = record {
    ascending = AllPairs-ascending (entries_in_order xs) (IsAscending-in_order xs held.distinct);
    taken = All-from_recursion (λ x. x.number < pushes) (entries_in_order xs) (all-in_order (λ x. x.number < pushes) xs (recursion_from_All (λ x. x.number < pushes) xs held.numbered));
  }

  -- the number of what leaves was taken
  pub top_was_taken : (e : Entry C) (xs ys : List (Entry C)) (pushes : ℕ) → HoldsPushed xs pushes → IsPermutation xs (e ∷ ys) → e.number < pushes
  top_was_taken e xs ys pushes held moved =
      (recursion_from_All (λ (x : Entry C). x.number < pushes) (e ∷ ys) (All-permutation (λ (x : Entry C). x.number < pushes) xs (e ∷ ys) moved held.numbered)).0

  pub HoldsPushed-pop : (e : Entry C) (xs ys : List (Entry C)) (pushes : ℕ) → HoldsPushed xs pushes → IsPermutation xs (e ∷ ys) → HoldsPushed ys pushes
  HoldsPushed-pop e xs ys pushes held moved = record {
    numbered = All-tail (λ (x : Entry C). x.number < pushes) e ys (All-permutation (λ (x : Entry C). x.number < pushes) xs (e ∷ ys) moved held.numbered);
    distinct = IsDistinct-tail _ e ys (HasOwnNumbers-IsPermutation xs (e ∷ ys) moved held.distinct);
  }

  pub joins_last : (e : Entry C) (xs ys : List (Entry C)) → HoldsPushed xs e.number → IsPermutation (e ∷ xs) ys → entries_in_order ys ≡ entries_in_order xs ++ e ∷ []
  joins_last e xs ys held moved = in_order-push e xs ys moved (recursion_from_All (λ (x : Entry C). x.number < e.number) xs held.numbered) held.distinct

  pub same_entry : (d e n m : ℕ) (command : C) → d ≡ e → n ≡ m → (let a : Entry C = record { due = d; number = n; command = command } in a) ≡ record { due = e; number = m; command = command }
  same_entry d e n m command p q = cc

  pub not_empty : (e : Entry C) (xs ys : List (Entry C)) → IsPermutation xs (e ∷ ys) → entries_in_order xs ≡ [] → ⊥
  not_empty e xs ys moved none =
      let here : length (entries_in_order xs) ≡ 0 = ap length none in
      let one : suc (length ys) ≡ length xs = length_permutation xs (e ∷ ys) moved in
      absurd (omega (arith, here, one, length-in_order xs))

  -- the top of a heap comes before all others, and has another number
  pub top_is_first : (e : Entry C) (xs ys : List (Entry C)) → HasOwnNumbers xs → IsPermutation xs (e ∷ ys) → IsUpperBound heap_order e ys → All (IsBefore e) (entries_in_order ys)
  top_is_first e xs ys own moved top =
      let apart : AllByRecursion (λ (x : Entry C). (e.number == x.number) ≡ false) ys = IsDistinct-head _ e ys (HasOwnNumbers-IsPermutation xs (e ∷ ys) moved own) in
      All-from_recursion (IsBefore e) (entries_in_order ys)
      (all-in_order (IsBefore e) ys (all_both (λ x. lt_by_cmp heap_order e x ≡ false) (λ x. (e.number == x.number) ≡ false) (IsBefore e) (leaves_first e) ys top apart))

  pub top_has_own_number : (e : Entry C) (xs ys : List (Entry C)) → HasOwnNumbers xs → IsPermutation xs (e ∷ ys) → All (λ x. x.number ≢ e.number) (entries_in_order ys)
  top_has_own_number e xs ys own moved =
      let apart : AllByRecursion (λ (x : Entry C). (e.number == x.number) ≡ false) ys = IsDistinct-head _ e ys (HasOwnNumbers-IsPermutation xs (e ∷ ys) moved own) in
      All-from_recursion (λ x. x.number ≢ e.number) (entries_in_order ys)
      (all-in_order (λ x. x.number ≢ e.number) ys (all_weaker _ (λ x. x.number ≢ e.number) (λ x h. differs e.number x.number h) ys apart))
