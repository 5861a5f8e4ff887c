-- Lists by the first element that passes a test.
use Rattle.std.proofs.Common.{◌≡◌, ◌+◌, ℕ, suc, ◌||◌, ◌&&◌, not, cond, Bool, true, false, List, [], ◌∷◌, ◌++◌, length, Some, None, slice_get, Contains, refl, sym, ap, ◌∙◌, subst, arith}
use Rattle.std.specs.List.{list_any, position_or_len}
use Rattle.std.proofs.lemmas.Bool.{false≢true}
use Rattle.tableau_calculus.proofs.ListLaws.{contains-first, contains-later}

one_more : {A : Type 0} (x : A) (xs : List A) (n : ℕ) → slice_get (x ∷ xs) (1 + n) ≡ slice_get xs n
one_more x xs n = let e : 1 + n ≡ suc n = omega arith in ap (slice_get (x ∷ xs)) e

-- the first one that passes is one that passes
pub first_passes : {A : Type 0} (p : A → Bool) (xs : List A) (x : A) → slice_get xs (position_or_len p xs) ≡ Some x → (p x ≡ true) × Contains xs x
first_passes p [] x h = cc
first_passes p (y ∷ xs) x h = go (p y) refl h (first_passes p xs x)
  where
    go : (b : Bool) → p y ≡ b → slice_get (y ∷ xs) (position_or_len p (y ∷ xs)) ≡ Some x → (slice_get xs (position_or_len p xs) ≡ Some x → (p x ≡ true) × Contains xs x) → (p x ≡ true) × Contains (y ∷ xs) x
    go true e h rest =
        let at : slice_get (y ∷ xs) (cond (not true) (1 + position_or_len p xs) 0) ≡ Some x = subst (λ b. slice_get (y ∷ xs) (cond (not b) (1 + position_or_len p xs) 0) ≡ Some x) e h in
        let same : y ≡ x = cc in
        (subst (λ z. p z ≡ true) same e, subst (Contains (y ∷ xs)) same (contains-first y xs))
    go false e h rest =
        let at : slice_get (y ∷ xs) (cond (not false) (1 + position_or_len p xs) 0) ≡ Some x = subst (λ b. slice_get (y ∷ xs) (cond (not b) (1 + position_or_len p xs) 0) ≡ Some x) e h in
        let found = rest (sym (one_more y xs (position_or_len p xs)) ∙ at) in
        (found.0, contains-later x y xs found.1)

-- where none passes, none does
pub none_passes : {A : Type 0} (p : A → Bool) (xs : List A) → slice_get xs (position_or_len p xs) ≡ None → list_any p xs ≡ false
none_passes p [] h = refl
none_passes p (y ∷ xs) h = go (p y) refl h (none_passes p xs)
  where
    go : (b : Bool) → p y ≡ b → slice_get (y ∷ xs) (position_or_len p (y ∷ xs)) ≡ None → (slice_get xs (position_or_len p xs) ≡ None → list_any p xs ≡ false) → (p y || list_any p xs) ≡ false
    go true e h rest =
        let at : slice_get (y ∷ xs) (cond (not true) (1 + position_or_len p xs) 0) ≡ None = subst (λ b. slice_get (y ∷ xs) (cond (not b) (1 + position_or_len p xs) 0) ≡ None) e h in
        cc
    go false e h rest =
        let at : slice_get (y ∷ xs) (cond (not false) (1 + position_or_len p xs) 0) ≡ None = subst (λ b. slice_get (y ∷ xs) (cond (not b) (1 + position_or_len p xs) 0) ≡ None) e h in
        ap (λ b. b || list_any p xs) e ∙ rest (sym (one_more y xs (position_or_len p xs)) ∙ at)

-- where one passes, it is one of the list
pub one_passes : {A : Type 0} (p : A → Bool) (xs : List A) → list_any p xs ≡ true → (x : A) × Contains xs x × (p x ≡ true)
one_passes p [] h = absurd (false≢true h)
one_passes p (y ∷ xs) h = go (p y) refl h (one_passes p xs)
  where
    go : (b : Bool) → p y ≡ b → (p y || list_any p xs) ≡ true → (list_any p xs ≡ true → (x : _) × Contains xs x × (p x ≡ true)) → (x : _) × Contains (y ∷ xs) x × (p x ≡ true)
    go true e h rest = (y, contains-first y xs, e)
    go false e h rest =
        let r = rest (ap (λ b. b || list_any p xs) (sym e) ∙ h) in
        (r.0, contains-later r.0 y xs r.1, r.2)

-- what is there stays there where more stands behind
pub get_middle : {A : Type 0} (front : List A) (x : A) (back : List A) (n : ℕ) → length front ≡ n → slice_get (front ++ x ∷ back) n ≡ Some x
get_middle [] x back n e = ap (slice_get (x ∷ back)) (sym e)
get_middle (y ∷ front) x back n e = ap (slice_get (y ∷ front ++ x ∷ back)) (sym e) ∙ get_middle front x back (length front) refl
