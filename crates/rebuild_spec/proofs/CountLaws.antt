-- A list without repeats of things from another list is no longer than that.
use Rattle.std.proofs.Common.{◌≡◌, ◌≤◌, suc, List, [], ◌∷◌, length, Contains, sym, ◌∙◌, subst, arith}
use Rattle.tableau_calculus.proofs.ListLaws.{contains-first, contains-later, contains_cases}

module _ {A : Type 0} where
  abbrev pub HasNoneTwice : List A → Type 0
  HasNoneTwice [] = Unit {0}
  HasNoneTwice (x ∷ xs) = (Contains xs x → ⊥) × HasNoneTwice xs

  -- a list with one element taken out
  record Removes (ys : List A) (x : A) : Type 0 where
    rest : List A
    shorter : length ys ≡ suc (length rest)
    others : (y : A) → Contains ys y → (x ≡ y → ⊥) → Contains rest y

  removes : (ys : List A) (x : A) → Contains ys x → Removes ys x
  removes [] x h = absurd (omega (arith, h.1))
  removes (y ∷ ys) x h = contains_cases (Removes (y ∷ ys) x) x y ys h here (λ later. there (removes ys x later))
    where
      here : y ≡ x → Removes (y ∷ ys) x
      here e = record {
        rest = ys;
        shorter = omega arith;
        others = λ z c other. contains_cases (Contains ys z) z y ys c (λ same. absurd (other (sym e ∙ same))) (λ later. later);
      }

      there : Removes ys x → Removes (y ∷ ys) x
      there r = record {
        rest = y ∷ r.rest;
        shorter = let e = r.shorter in omega (arith, e);
        others = λ z c other. contains_cases (Contains (y ∷ r.rest) z) z y ys c (λ same. subst (Contains (y ∷ r.rest)) same (contains-first y r.rest)) (λ later. contains-later z y r.rest (r.others z later other));
      }

  pub no_longer : (xs ys : List A) → HasNoneTwice xs → ((x : A) → Contains xs x → Contains ys x) → length xs ≤ length ys
  no_longer [] ys once within = omega arith
  no_longer (x ∷ xs) ys once within =
      let r = removes ys x (within x (contains-first x xs)) in
      let rest = no_longer xs r.rest once.1 (λ y h. r.others y (within y (contains-later y x xs h)) (λ same. once.0 (subst (Contains xs) (sym same) h))) in
      let shorter = r.shorter in
      omega (arith, rest, shorter)
