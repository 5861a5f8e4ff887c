-- Sets of numbers.
use Rattle.std.proofs.Common.{◌≡◌, ℕ, nat_eq, Bool, true, false, ◌||◌, not, List, [], ◌∷◌, IsTrue, refl, sym, ap, subst, ⊎_elim}
use Rattle.std.proofs.lemmas.Bool.{and_from, and_parts, or_cases, or_left, or_right, eqb-true, eq-eqb}
use Rattle.std.specs.List.{list_all, list_any}
use Rattle.indexmap.specs.IndexSet.{IndexSet, contains}
use Rattle.tableau_calculus.proofs.ListLaws.{untrue}
use Rattle.refute_check.specs.Internal.Branches.{branch_has, line_has}
use Rattle.refute_check.specs.declared.branch.Branch.{Branch}
use Rattle.refute_check.specs.declared.branch.LineBranch.{LineBranch}

pub or_split : {P : Type 0} (a b : Bool) → (a || b) ≡ true → (a ≡ true → P) → (b ≡ true → P) → P
or_split a b h f g = ⊎_elim f g (or_cases a b h)

pub or_swap : (a b : Bool) → (a || b) ≡ true → (b || a) ≡ true
or_swap a b h = or_split a b h (λ e. or_right b a e) (λ e. or_left b a e)

-- what holds of all keys holds of those that are found
all_found : (p : ℕ → Bool) (xs : List ℕ) (k : ℕ) → list_all p xs ≡ true → list_any (λ x. nat_eq k x) xs ≡ true → p k ≡ true
all_found p [] k h g = cc
all_found p (x ∷ xs) k h g =
    let parts = and_parts (p x) (list_all p xs) h in
    or_split (nat_eq k x) (list_any (λ y. nat_eq k y) xs) g
    (λ e. let same : k ≡ x = eqb-true k x e in subst (λ j. p j ≡ true) (sym same) parts.0)
    (λ e. all_found p xs k parts.1 e)

found_first : (x : ℕ) → nat_eq x x ≡ true
found_first x = eq-eqb x x refl

found_all : (p : ℕ → Bool) (xs : List ℕ) → ((k : ℕ) → list_any (λ x. nat_eq k x) xs ≡ true → p k ≡ true) → list_all p xs ≡ true
found_all p [] h = refl
found_all p (x ∷ xs) h =
    and_from (p x) (list_all p xs) (h x (or_left (nat_eq x x) (list_any (λ y. nat_eq x y) xs) (found_first x)))
    (found_all p xs (λ k e. h k (or_right (nat_eq k x) (list_any (λ y. nat_eq k y) xs) e)))

any_found : (p : ℕ → Bool) (xs : List ℕ) (k : ℕ) → list_any (λ x. nat_eq k x) xs ≡ true → p k ≡ true → list_any p xs ≡ true
any_found p [] k h g = cc
any_found p (x ∷ xs) k h g =
    or_split (nat_eq k x) (list_any (λ y. nat_eq k y) xs) h
    (λ e. let same : k ≡ x = eqb-true k x e in or_left (p x) (list_any p xs) (subst (λ j. p j ≡ true) same g))
    (λ e. or_right (p x) (list_any p xs) (any_found p xs k e g))

found_any : (p : ℕ → Bool) (xs : List ℕ) → list_any p xs ≡ true → (k : ℕ) × (list_any (λ x. nat_eq k x) xs ≡ true) × (p k ≡ true)
found_any p [] h = cc
found_any p (x ∷ xs) h =
    or_split (p x) (list_any p xs) h
    (λ e. (x, or_left (nat_eq x x) (list_any (λ y. nat_eq x y) xs) (found_first x), e))
    (λ e. let r = found_any p xs e in (r.0, or_right (nat_eq r.0 x) (list_any (λ y. nat_eq r.0 y) xs) r.1, r.2))

-- a test passes one of a set's keys
pub list_any-keys : {S : Type 0} (p : ℕ → Bool) (s : IndexSet ℕ S) → IsTrue (list_any p s.keys) → (k : ℕ) × IsTrue (contains nat_eq s k) × IsTrue (p k)
list_any-keys p s h = found_any p s.keys h

pub list_any-contains : {S : Type 0} (p : ℕ → Bool) (s : IndexSet ℕ S) (k : ℕ) → IsTrue (contains nat_eq s k) → IsTrue (p k) → IsTrue (list_any p s.keys)
list_any-contains p s k h g = any_found p s.keys k h g

-- a branch in lists
pub listed_has : (l : LineBranch) (b : Branch) → l.positive.items ≡ b.positive.keys → l.negative.items ≡ b.negative.keys → (sign : Bool) (k : ℕ) → line_has l sign k ≡ branch_has b sign k
listed_has l b p n true k = ap (list_any (nat_eq k)) p
listed_has l b p n false k = ap (list_any (nat_eq k)) n

-- the two sides of a line's branch
module _ (b : LineBranch) (left right : Branch) where
  pub within_sides : IsTrue (list_all (λ k. contains nat_eq left.positive k || contains nat_eq right.positive k) b.positive.items) → IsTrue (list_all (λ k. contains nat_eq left.negative k || contains nat_eq right.negative k) b.negative.items) → (sign : Bool) (k : ℕ) → IsTrue (line_has b sign k) → IsTrue (branch_has left sign k || branch_has right sign k)
  within_sides h g true k e = all_found (λ k. contains nat_eq left.positive k || contains nat_eq right.positive k) b.positive.items k h e
  within_sides h g false k e = all_found (λ k. contains nat_eq left.negative k || contains nat_eq right.negative k) b.negative.items k g e

  pub positive_within : ((sign : Bool) (k : ℕ) → IsTrue (line_has b sign k) → IsTrue (branch_has left sign k || branch_has right sign k)) → IsTrue (list_all (λ k. contains nat_eq left.positive k || contains nat_eq right.positive k) b.positive.items)
  positive_within h = found_all (λ k. contains nat_eq left.positive k || contains nat_eq right.positive k) b.positive.items (h true)

  pub negative_within : ((sign : Bool) (k : ℕ) → IsTrue (line_has b sign k) → IsTrue (branch_has left sign k || branch_has right sign k)) → IsTrue (list_all (λ k. contains nat_eq left.negative k || contains nat_eq right.negative k) b.negative.items)
  negative_within h = found_all (λ k. contains nat_eq left.negative k || contains nat_eq right.negative k) b.negative.items (h false)

module _ (b other : Branch) where
  pub positive_clash : IsTrue (list_any (contains nat_eq other.negative) b.positive.keys) → (k : ℕ) × (sign : Bool) × IsTrue (branch_has b sign k) × IsTrue (branch_has other (not sign) k)
  positive_clash h = let r = list_any-keys (contains nat_eq other.negative) b.positive h in (r.0, true, r.1, r.2)

  pub negative_clash : IsTrue (list_any (contains nat_eq other.positive) b.negative.keys) → (k : ℕ) × (sign : Bool) × IsTrue (branch_has b sign k) × IsTrue (branch_has other (not sign) k)
  negative_clash h = let r = list_any-keys (contains nat_eq other.positive) b.negative h in (r.0, false, r.1, r.2)

  pub clash_sides : list_any (contains nat_eq other.negative) b.positive.keys ≡ false → (sign : Bool) (k : ℕ) → IsTrue (branch_has b sign k) → IsTrue (branch_has other (not sign) k) → IsTrue (list_any (contains nat_eq other.positive) b.negative.keys)
  clash_sides h true k e g = absurd (untrue (list_any-contains (contains nat_eq other.negative) b.positive k e g) h)
  clash_sides h false k e g = list_any-contains (contains nat_eq other.positive) b.negative k e g
