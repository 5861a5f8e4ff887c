-- Tables of numbers without repeats.
use Rattle.std.proofs.Common.{◌≡◌, ℕ, zero, suc, ◌<◌, List, [], ◌∷◌, ◌++◌, get_or, slice_get, Some, Bool, true, false, nat_eq, position, refl, sym, ap, subst, ◌∙◌, append-nil, arith, true≢false, eq-eqb, if◌then◌else◌}
use Rattle.std.specs.Prelude.{All}
use Rattle.std.specs.List.{IsDistinct, AllByRecursion, list_any}
use Rattle.std.proofs.lemmas.Bool.{eqb-true}
use Rattle.std.proofs.lemmas.Option.{same_Some, get_or_from_slice_get}
use Rattle.std.proofs.lemmas.List.Elements.{All-append}
use Rattle.std.proofs.lemmas.List.Quantifiers.{position-Some}
use Rattle.indexmap.specs.IndexSet.{insert_key}
use Rattle.literal_map.specs.Atoms.{Begins}

none_later : (x : ℕ) (xs : List ℕ) (i : ℕ) → AllByRecursion (λ y. nat_eq x y ≡ false) xs → slice_get xs i ≡ Some x → ⊥
none_later x [] i all g = cc
none_later x (y ∷ xs) zero all g = true≢false (sym (eq-eqb x y (sym (same_Some y x g))) ∙ all.0)
none_later x (y ∷ xs) (suc i) all g = none_later x xs i all.1 g

pub one_place : (xs : List ℕ) → IsDistinct nat_eq xs → (i j x : ℕ) → slice_get xs i ≡ Some x → slice_get xs j ≡ Some x → i ≡ j
unfolding IsDistinct
one_place [] d i j x g h = cc
one_place (y ∷ xs) d zero zero x g h = refl
one_place (y ∷ xs) d zero (suc j) x g h =
    let q : x ≡ y = sym (same_Some y x g) in
    absurd (none_later y xs j d.0 (h ∙ ap Some q))
one_place (y ∷ xs) d (suc i) zero x g h =
    let q : x ≡ y = sym (same_Some y x h) in
    absurd (none_later y xs i d.0 (g ∙ ap Some q))
one_place (y ∷ xs) d (suc i) (suc j) x g h = ap suc (one_place xs d.1 i j x g h)

pub all_inserted : (P : ℕ → Type 0) (xs : List ℕ) (x : ℕ) → All P xs → P x → All P (insert_key nat_eq xs x)
all_inserted P xs x all p = go (list_any (nat_eq x) xs)
  where
    end : All P (x ∷ [])
    end = λ k d h. subst P (first k d h) p
      where
        first : (k d : ℕ) → k < 1 → x ≡ get_or (x ∷ []) k d
        first zero d h = refl
        first (suc k) d h = absurd (omega (arith, h))

    go : (b : Bool) → All P (if b then xs else xs ++ x ∷ [])
    go true = all
    go false = All-append P xs (x ∷ []) all end

pub begins_inserted : (xs : List ℕ) (x : ℕ) → Begins xs (insert_key nat_eq xs x)
begins_inserted xs x = go (list_any (nat_eq x) xs)
  where
    go : (b : Bool) → Begins xs (if b then xs else xs ++ x ∷ [])
    go true = record { further = []; is = sym (append-nil xs) }
    go false = record { further = x ∷ []; is = refl }

pub stored_at : (xs : List ℕ) (x n k : ℕ) → slice_get xs n ≡ Some k → nat_eq x k ≡ true → get_or xs n 0 ≡ x
stored_at xs x n k g e = get_or_from_slice_get xs n k 0 g ∙ sym (eqb-true x k e)

pub found_at : (xs : List ℕ) (x n : ℕ) → Some n ≡ position (nat_eq x) xs → get_or xs n 0 ≡ x
found_at xs x n h = let p = position-Some (nat_eq x) xs n 0 (sym h) in sym (eqb-true x (get_or xs n 0) p.1)
