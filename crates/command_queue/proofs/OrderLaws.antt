-- Entries by their numbers: the order in which a heap stores them is forgotten.
use Rattle.std.proofs.Common.{◌≡◌, ◌⊎◌, inl, inr, ℕ, suc, ◌<◌, ◌==◌, ◌&&◌, ◌||◌, nat_lt, Bool, true, false, List, [], ◌∷◌, ◌++◌, length, refl, sym, ap, ◌∙◌, subst, IsTrue, if◌then◌else◌, arith}
use Rattle.std.specs.List.{AllByRecursion, AllPairs}
use Rattle.std.specs.List.Sorted.{IsPermutation}
use Rattle.std.specs.Ordering.{is_lt, ordering_then, nat_cmp}
use Rattle.std.specs.BinaryHeap.{lt_by_cmp}
use Rattle.std.proofs.lemmas.Bool.Decides.{nat_tests}
use Rattle.std.proofs.lemmas.List.Elements.{All-from_recursion, recursion_from_All}
use Rattle.std.proofs.lemmas.List.Kept.{AllPairs-cons}
use Rattle.std.proofs.lemmas.List.Sorted.{All-permutation, IsPermutation-sym}
use Rattle.std.proofs.lemmas.Map.Keys.{IsDistinct-IsPermutation, IsDistinct-tail, IsDistinct-head, IsDistinct-cons}
use Rattle.command_queue.specs.declared.entry.Entry.{Entry}
use Rattle.command_queue.specs.Queue.{IsBefore}
use Rattle.command_queue.specs.Internal.Inside.{placed_entry, entries_in_order, heap_order, HasOwnNumbers}

other_greater : (a b : ℕ) → nat_lt a b ≡ false → (a == b) ≡ false → b < a
other_greater a b h k = grind (arith, nat_tests)

other_number : (a b : ℕ) → b < a → (a == b) ≡ false
other_number a b h = grind (arith, nat_tests)

first_by : (d n e m : ℕ) → is_lt (ordering_then (nat_cmp e d) (nat_cmp m n)) ≡ false → (n == m) ≡ false → IsTrue (nat_lt d e || ((d == e) && nat_lt n m))
first_by d n e m h k = grind (arith, nat_tests)

module _ {C : Type 0} where
  -- one of the entries is this one
  abbrev pub Has : List (Entry C) → Entry C → Type 0
  Has [] z = ⊥
  Has (x ∷ xs) z = (x ≡ z) ⊎ Has xs z

  -- each number is below those after it
  abbrev pub IsAscending : List (Entry C) → Type 0
  IsAscending [] = Unit {0}
  IsAscending (x ∷ xs) = AllByRecursion (λ y. x.number < y.number) xs × IsAscending xs

  pub all_weaker : (P Q : Entry C → Type 0) → ((x : Entry C) → P x → Q x) → (xs : List (Entry C)) → AllByRecursion P xs → AllByRecursion Q xs
  all_weaker P Q f [] h = tt
  all_weaker P Q f (x ∷ xs) h = (f x h.0, all_weaker P Q f xs h.1)

  pub all_both : (P Q R : Entry C → Type 0) → ((x : Entry C) → P x → Q x → R x) → (xs : List (Entry C)) → AllByRecursion P xs → AllByRecursion Q xs → AllByRecursion R xs
  all_both P Q R f [] h k = tt
  all_both P Q R f (x ∷ xs) h k = (f x h.0 k.0, all_both P Q R f xs h.1 k.1)

  all_Has : (xs : List (Entry C)) → AllByRecursion (Has xs) xs
  all_Has [] = tt
  all_Has (x ∷ xs) = (inl refl, all_weaker (Has xs) (Has (x ∷ xs)) (λ z h. inr h) xs (all_Has xs))

  at_Has : (P : Entry C → Type 0) (xs : List (Entry C)) (z : Entry C) → AllByRecursion P xs → Has xs z → P z
  at_Has P [] z h k = absurd k
  at_Has P (x ∷ xs) z h (inl e) = subst P e h.0
  at_Has P (x ∷ xs) z h (inr k) = at_Has P xs z h.1 k

  -- in its place
  pub all-placed : (P : Entry C → Type 0) (e : Entry C) (xs : List (Entry C)) → P e → AllByRecursion P xs → AllByRecursion P (placed_entry e xs)
  all-placed P e [] h k = (h, tt)
  all-placed P e (x ∷ xs) h k = go (nat_lt e.number x.number) (all-placed P e xs h k.1)
    where
      go : (b : Bool) → AllByRecursion P (placed_entry e xs) → AllByRecursion P (if b then e ∷ x ∷ xs else x ∷ placed_entry e xs)
      go true rest = (h, k)
      go false rest = (k.0, rest)

  pub all-in_order : (P : Entry C → Type 0) (xs : List (Entry C)) → AllByRecursion P xs → AllByRecursion P (entries_in_order xs)
  all-in_order P [] h = tt
  all-in_order P (x ∷ xs) h = all-placed P x (entries_in_order xs) h.0 (all-in_order P xs h.1)

  Has-placed_itself : (e : Entry C) (xs : List (Entry C)) → Has (placed_entry e xs) e
  Has-placed_itself e [] = inl refl
  Has-placed_itself e (x ∷ xs) = go (nat_lt e.number x.number) (Has-placed_itself e xs)
    where
      go : (b : Bool) → Has (placed_entry e xs) e → Has (if b then e ∷ x ∷ xs else x ∷ placed_entry e xs) e
      go true rest = inl refl
      go false rest = inr rest

  Has-placed : (e z : Entry C) (xs : List (Entry C)) → Has xs z → Has (placed_entry e xs) z
  Has-placed e z [] h = absurd h
  Has-placed e z (x ∷ xs) h = go (nat_lt e.number x.number) h (Has-placed e z xs)
    where
      go : (b : Bool) → Has (x ∷ xs) z → (Has xs z → Has (placed_entry e xs) z) → Has (if b then e ∷ x ∷ xs else x ∷ placed_entry e xs) z
      go true k rest = inr k
      go false (inl same) rest = inl same
      go false (inr k) rest = inr (rest k)

  all-Has_in_order : (xs : List (Entry C)) → AllByRecursion (Has (entries_in_order xs)) xs
  all-Has_in_order [] = tt
  all-Has_in_order (x ∷ xs) =
      (Has-placed_itself x (entries_in_order xs), all_weaker (Has (entries_in_order xs)) (Has (placed_entry x (entries_in_order xs))) (λ z. Has-placed x z (entries_in_order xs)) xs (all-Has_in_order xs))

  -- an entry with another number than all keeps the numbers ascending
  IsAscending-placed : (e : Entry C) (xs : List (Entry C)) → IsAscending xs → AllByRecursion (λ y. (e.number == y.number) ≡ false) xs → IsAscending (placed_entry e xs)
  IsAscending-placed e [] h k = (tt, tt)
  IsAscending-placed e (x ∷ xs) h k = go (nat_lt e.number x.number) refl (IsAscending-placed e xs h.1 k.1)
    where
      go : (b : Bool) → nat_lt e.number x.number ≡ b → IsAscending (placed_entry e xs) → IsAscending (if b then e ∷ x ∷ xs else x ∷ placed_entry e xs)
      go true is rest =
          let less : e.number < x.number = grind (arith, nat_tests) in
          ((less, all_weaker (λ y. x.number < y.number) (λ y. e.number < y.number) (λ y l. omega (arith, less, l)) xs h.0), h)
      go false is rest = (all-placed (λ y. x.number < y.number) e xs (other_greater e.number x.number is k.0) h.0, rest)

  pub IsAscending-in_order : (xs : List (Entry C)) → HasOwnNumbers xs → IsAscending (entries_in_order xs)
  IsAscending-in_order [] h = tt
  IsAscending-in_order (x ∷ xs) h =
      IsAscending-placed x (entries_in_order xs) (IsAscending-in_order xs (IsDistinct-tail _ x xs h))
      (all-in_order (λ y. (x.number == y.number) ≡ false) xs (IsDistinct-head _ x xs h))

  -- two ascending lists of the same entries are one
  without_head : (x : Entry C) (ys zs : List (Entry C)) → AllByRecursion (λ z. x.number < z.number) zs → AllByRecursion (Has (x ∷ ys)) zs → AllByRecursion (Has ys) zs
  without_head x ys zs above inside = all_both (λ z. x.number < z.number) (Has (x ∷ ys)) (Has ys) one zs above inside
    where
      one : (z : Entry C) → x.number < z.number → Has (x ∷ ys) z → Has ys z
      one z less (inl e) = let same : x.number ≡ z.number = ap (λ (y : Entry C). y.number) e in absurd (omega (arith, less, same))
      one z less (inr k) = k

  same_first : (x y : Entry C) (xs ys : List (Entry C)) → AllByRecursion (λ z. x.number < z.number) xs → AllByRecursion (λ z. y.number < z.number) ys → Has (y ∷ ys) x → Has (x ∷ xs) y → x ≡ y
  same_first x y xs ys above_x above_y (inl e) k = sym e
  same_first x y xs ys above_x above_y (inr h) (inl e) = e
  same_first x y xs ys above_x above_y (inr h) (inr k) =
      let one : x.number < y.number = at_Has (λ z. x.number < z.number) xs y above_x k in
      let other : y.number < x.number = at_Has (λ z. y.number < z.number) ys x above_y h in
      absurd (omega (arith, one, other))

  same_entries : (xs ys : List (Entry C)) → IsAscending xs → IsAscending ys → AllByRecursion (Has ys) xs → AllByRecursion (Has xs) ys → xs ≡ ys
  same_entries [] [] a b h k = refl
  same_entries [] (y ∷ ys) a b h k = absurd k.0
  same_entries (x ∷ xs) [] a b h k = absurd h.0
  same_entries (x ∷ xs) (y ∷ ys) a b h k =
      let first : x ≡ y = same_first x y xs ys a.0 b.0 h.0 k.0 in
      let here : AllByRecursion (Has (x ∷ ys)) xs = subst (λ (v : Entry C). AllByRecursion (Has (v ∷ ys)) xs) (sym first) h.1 in
      let there : AllByRecursion (λ z. x.number < z.number) ys = subst (λ (v : Entry C). AllByRecursion (λ z. v.number < z.number) ys) (sym first) b.0 in
      ap (λ (v : Entry C). v ∷ xs) first
      ∙ ap (λ (vs : List (Entry C)). y ∷ vs) (same_entries xs ys a.1 b.1 (without_head x ys xs a.0 here) (without_head x xs ys there k.1))

  pub HasOwnNumbers-IsPermutation : (xs ys : List (Entry C)) → IsPermutation xs ys → HasOwnNumbers xs → HasOwnNumbers ys
  HasOwnNumbers-IsPermutation xs ys moved own = IsDistinct-IsPermutation (λ a b. a.number == b.number) (λ a b. flipped a.number b.number) xs ys moved own
    where
      flipped : (m n : ℕ) → (m == n) ≡ (n == m)
      flipped m n = grind (arith, nat_tests)

  all_permuted : (P : Entry C → Type 0) (xs ys : List (Entry C)) → IsPermutation xs ys → AllByRecursion P xs → AllByRecursion P ys
  all_permuted P xs ys moved h = recursion_from_All P ys (All-permutation P xs ys moved (All-from_recursion P xs h))

  pub in_order-IsPermutation : (xs ys : List (Entry C)) → IsPermutation xs ys → HasOwnNumbers xs → entries_in_order xs ≡ entries_in_order ys
  in_order-IsPermutation xs ys moved own =
      same_entries (entries_in_order xs) (entries_in_order ys)
      (IsAscending-in_order xs own) (IsAscending-in_order ys (HasOwnNumbers-IsPermutation xs ys moved own))
      (all-in_order (Has (entries_in_order ys)) xs (all_permuted (Has (entries_in_order ys)) ys xs (IsPermutation-sym xs ys moved) (all-Has_in_order ys)))
      (all-in_order (Has (entries_in_order xs)) ys (all_permuted (Has (entries_in_order xs)) xs ys moved (all-Has_in_order xs)))

  -- what joins last, and what leaves
  placed-last : (e : Entry C) (xs : List (Entry C)) → AllByRecursion (λ x. x.number < e.number) xs → placed_entry e xs ≡ xs ++ e ∷ []
  placed-last e [] h = refl
  placed-last e (x ∷ xs) h = go (nat_lt e.number x.number) refl (placed-last e xs h.1)
    where
      go : (b : Bool) → nat_lt e.number x.number ≡ b → placed_entry e xs ≡ xs ++ e ∷ [] → (if b then e ∷ x ∷ xs else x ∷ placed_entry e xs) ≡ (x ∷ xs) ++ e ∷ []
      go true is rest = let less : x.number < e.number = h.0 in absurd (grind (arith, nat_tests, less, is))
      go false is rest = ap (λ (ys : List (Entry C)). x ∷ ys) rest

  pub HasOwnNumbers-push : (e : Entry C) (xs : List (Entry C)) → AllByRecursion (λ x. x.number < e.number) xs → HasOwnNumbers xs → HasOwnNumbers (e ∷ xs)
  HasOwnNumbers-push e xs below own = IsDistinct-cons (λ a b. a.number == b.number) e xs (all_weaker (λ x. x.number < e.number) (λ x. (e.number == x.number) ≡ false) (λ x h. other_number e.number x.number h) xs below) own

  pub in_order-push : (e : Entry C) (xs ys : List (Entry C)) → IsPermutation (e ∷ xs) ys → AllByRecursion (λ x. x.number < e.number) xs → HasOwnNumbers xs → entries_in_order ys ≡ entries_in_order xs ++ e ∷ []
  in_order-push e xs ys moved below own =
      sym (in_order-IsPermutation (e ∷ xs) ys moved (HasOwnNumbers-push e xs below own))
      ∙ placed-last e (entries_in_order xs) (all-in_order (λ x. x.number < e.number) xs below)

  -- where an entry stands among others
  pub record Stands (e : Entry C) (others all : List (Entry C)) : Type 0 where
    pub before : List (Entry C)
    pub behind : List (Entry C)
    pub others_are : others ≡ before ++ behind
    pub all_are : all ≡ before ++ e ∷ behind

  placed-stands : (e : Entry C) (xs : List (Entry C)) → Stands e xs (placed_entry e xs)
  placed-stands e [] = record { before = []; behind = []; others_are = refl; all_are = refl }
  placed-stands e (x ∷ xs) = go (nat_lt e.number x.number) (placed-stands e xs)
    where
      go : (b : Bool) → Stands e xs (placed_entry e xs) → Stands e (x ∷ xs) (if b then e ∷ x ∷ xs else x ∷ placed_entry e xs)
      go true rest = record { before = []; behind = x ∷ xs; others_are = refl; all_are = refl }
      go false rest = record {
        before = x ∷ rest.before;
        behind = rest.behind;
        others_are = ap (λ (ys : List (Entry C)). x ∷ ys) rest.others_are;
        all_are = ap (λ (ys : List (Entry C)). x ∷ ys) rest.all_are;
      }

  -- an entry with a number of its own stands behind the lesser ones and before the greater ones
  pub record StandsByNumber (e : Entry C) (others all : List (Entry C)) : Type 0 where
    pub stands : Stands e others all
    pub below : AllByRecursion (λ x. x.number < e.number) stands.before
    pub above : AllByRecursion (λ x. e.number < x.number) stands.behind

  placed-stands_by_number : (e : Entry C) (xs : List (Entry C)) → IsAscending xs → AllByRecursion (λ x. (e.number == x.number) ≡ false) xs → StandsByNumber e xs (placed_entry e xs)
  placed-stands_by_number e [] h k = record { stands = record { before = []; behind = []; others_are = refl; all_are = refl }; below = tt; above = tt }
  placed-stands_by_number e (x ∷ xs) h k = go (nat_lt e.number x.number) refl (placed-stands_by_number e xs h.1 k.1)
    where
      go : (b : Bool) → nat_lt e.number x.number ≡ b → StandsByNumber e xs (placed_entry e xs) → StandsByNumber e (x ∷ xs) (if b then e ∷ x ∷ xs else x ∷ placed_entry e xs)
      go true is rest =
          let less : e.number < x.number = grind (arith, nat_tests) in
          record {
            stands = record { before = []; behind = x ∷ xs; others_are = refl; all_are = refl };
            below = tt;
            above = (less, all_weaker (λ y. x.number < y.number) (λ y. e.number < y.number) (λ y l. omega (arith, less, l)) xs h.0);
          }
      go false is rest = record {
        stands = record {
          before = x ∷ rest.stands.before;
          behind = rest.stands.behind;
          others_are = ap (λ (ys : List (Entry C)). x ∷ ys) rest.stands.others_are;
          all_are = ap (λ (ys : List (Entry C)). x ∷ ys) rest.stands.all_are;
        };
        below = (other_greater e.number x.number is k.0, rest.below);
        above = rest.above;
      }

  pub in_order-push_at : (e : Entry C) (xs ys : List (Entry C)) → IsPermutation (e ∷ xs) ys → HasOwnNumbers xs → AllByRecursion (λ x. (e.number == x.number) ≡ false) xs → StandsByNumber e (entries_in_order xs) (entries_in_order ys)
  in_order-push_at e xs ys moved own apart =
      let all_own : HasOwnNumbers (e ∷ xs) = IsDistinct-cons (λ a b. a.number == b.number) e xs apart own in
      let is : placed_entry e (entries_in_order xs) ≡ entries_in_order ys = in_order-IsPermutation (e ∷ xs) ys moved all_own in
      subst (StandsByNumber e (entries_in_order xs)) is
      (placed-stands_by_number e (entries_in_order xs) (IsAscending-in_order xs own) (all-in_order (λ x. (e.number == x.number) ≡ false) xs apart))

  -- what holds of the entries by their numbers holds of them as they stand
  pub all-from_in_order : (P : Entry C → Type 0) (xs : List (Entry C)) → AllByRecursion P (entries_in_order xs) → AllByRecursion P xs
  all-from_in_order P xs h = all_weaker (Has (entries_in_order xs)) P (λ z k. at_Has P (entries_in_order xs) z h k) xs (all-Has_in_order xs)

  pub AllPairs-ascending : (xs : List (Entry C)) → IsAscending xs → AllPairs (λ a b. a.number < b.number) xs
  AllPairs-ascending [] h = λ i j d less within. absurd (omega arith)
  AllPairs-ascending (x ∷ xs) h = AllPairs-cons (λ a b. a.number < b.number) x xs (All-from_recursion (λ y. x.number < y.number) xs h.0) (AllPairs-ascending xs h.1)

  pub in_order-pop : (e : Entry C) (xs ys : List (Entry C)) → IsPermutation xs (e ∷ ys) → HasOwnNumbers xs → Stands e (entries_in_order ys) (entries_in_order xs)
  in_order-pop e xs ys moved own =
      let is : entries_in_order xs ≡ placed_entry e (entries_in_order ys) = in_order-IsPermutation xs (e ∷ ys) moved own in
      let stands = placed-stands e (entries_in_order ys) in
      record {
        before = stands.before;
        behind = stands.behind;
        others_are = stands.others_are;
        all_are = is ∙ stands.all_are;
      }

  length-placed : (e : Entry C) (xs : List (Entry C)) → length (placed_entry e xs) ≡ suc (length xs)
  length-placed e [] = refl
  length-placed e (x ∷ xs) = go (nat_lt e.number x.number) (length-placed e xs)
    where
      go : (b : Bool) → length (placed_entry e xs) ≡ suc (length xs) → length (if b then e ∷ x ∷ xs else x ∷ placed_entry e xs) ≡ suc (suc (length xs))
      go true rest = refl
      go false rest = ap suc rest

  pub length-in_order : (xs : List (Entry C)) → length (entries_in_order xs) ≡ length xs
  length-in_order [] = refl
  length-in_order (x ∷ xs) = length-placed x (entries_in_order xs) ∙ ap suc (length-in_order xs)

  -- what the top of a heap says
  pub leaves_first : (x y : Entry C) → lt_by_cmp heap_order x y ≡ false → (x.number == y.number) ≡ false → IsBefore x y
  leaves_first x y h k = first_by x.due x.number y.due y.number h k
