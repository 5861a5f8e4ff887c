-- Lists in which a literal may be there already.
use Rattle.std.proofs.Common.{◌≡◌, ◌||◌, Bool, true, false, List, [], ◌∷◌, ◌++◌, Contains, refl, sym, ap, ap₂, subst, ⊎_elim, ◌⊎◌, inl, inr, ◌∙◌, if◌then◌else◌, arith}
use Rattle.std.proofs.lemmas.Bool.{and_parts}
use Rattle.std.proofs.lemmas.List.Elements.{Contains-push, Contains-append_left, Contains-push_cases}
use Rattle.stt_core.specs.SameTerm.{same_term}
use Rattle.stt_core.proofs.SameTerms.{same_term-refl, same_term-true}
use Rattle.tableau_calculus.specs.Literals.{Literal}
use Rattle.tableau_calculus.specs.Kinds.{same_sign, same_signed, has, added, formulas}
use Rattle.tableau_calculus.proofs.ListLaws.{contains-first, contains-later, contains_cases}

pub same_sign-true : (a b : Bool) → same_sign a b ≡ true → a ≡ b
same_sign-true true true h = refl
same_sign-true true false h = cc
same_sign-true false true h = cc
same_sign-true false false h = refl

pub same_literal-true : (l k : Literal) → same_signed l k ≡ true → l ≡ k
same_literal-true l k h =
    let p = and_parts (same_sign l.positive k.positive) (same_term l.atom k.atom) h in
    ap₂ (λ b t. record { positive = b; atom = t }) (same_sign-true l.positive k.positive p.0) (same_term-true l.atom k.atom p.1)

pub same_literal-refl : (l : Literal) → same_signed l l ≡ true
same_literal-refl l = go l.positive
  where
    go : (p : Bool) → same_signed (record { positive = p; atom = l.atom }) (record { positive = p; atom = l.atom }) ≡ true
    go true = same_term-refl l.atom
    go false = same_term-refl l.atom

-- the test whether a literal is in a list tells whether it is
pub has-true : (ls : List Literal) (l : Literal) → has formulas ls l ≡ true → Contains ls l
has-true [] l h = cc
has-true (k ∷ ls) l h = go (same_signed l k) refl h (has-true ls l)
  where
    go : (b : Bool) → same_signed l k ≡ b → b || has formulas ls l ≡ true → (has formulas ls l ≡ true → Contains ls l) → Contains (k ∷ ls) l
    go true e t rest = subst (Contains (k ∷ ls)) (sym (same_literal-true l k e)) (contains-first k ls)
    go false e t rest = contains-later l k ls (rest t)

pub has-of : (ls : List Literal) (l : Literal) → Contains ls l → has formulas ls l ≡ true
has-of [] l h = absurd (omega (arith, h.1))
has-of (k ∷ ls) l h =
    contains_cases (has formulas (k ∷ ls) l ≡ true) l k ls h
    (λ e. ap (λ b. b || has formulas ls l) (ap (same_signed l) e ∙ same_literal-refl l))
    (λ c. go (same_signed l k) (has-of ls l c))
  where
    go : (b : Bool) → has formulas ls l ≡ true → b || has formulas ls l ≡ true
    go true e = refl
    go false e = e

pub added-there : (ls : List Literal) (l : Literal) → Contains ls l → added formulas ls (l ∷ []) ≡ ls
added-there ls l h = ap (λ b. if b then ls else ls ++ l ∷ []) (has-of ls l h)

pub added-new : (ls : List Literal) (l : Literal) → (Contains ls l → ⊥) → added formulas ls (l ∷ []) ≡ ls ++ l ∷ []
added-new ls l n = go (has formulas ls l) refl
  where
    go : (b : Bool) → has formulas ls l ≡ b → (if b then ls else ls ++ l ∷ []) ≡ ls ++ l ∷ []
    go true e = absurd (n (has-true ls l e))
    go false e = refl

pub added-append : (ls xs ys : List Literal) → added formulas ls (xs ++ ys) ≡ added formulas (added formulas ls xs) ys
added-append ls [] ys = refl
added-append ls (x ∷ xs) ys = added-append (if has formulas ls x then ls else ls ++ x ∷ []) xs ys

-- the list with further literals has those that the two have
pub contains_cases-added : (ls ks : List Literal) (l : Literal) → Contains (added formulas ls ks) l → Contains ls l ⊎ Contains ks l
contains_cases-added ls [] l h = inl h
contains_cases-added ls (k ∷ ks) l h = ⊎_elim (go (has formulas ls k)) (λ later. inr (contains-later l k ks later)) (contains_cases-added (if has formulas ls k then ls else ls ++ k ∷ []) ks l h)
  where
    go : (b : Bool) → Contains (if b then ls else ls ++ k ∷ []) l → Contains ls l ⊎ Contains (k ∷ ks) l
    go true c = inl c
    go false c = ⊎_elim (λ d. inl d) (λ same. inr (subst (Contains (k ∷ ks)) same (contains-first k ks))) (Contains-push_cases ls k l c)

kept : (ls : List Literal) (k l : Literal) (b : Bool) → Contains ls l → Contains (if b then ls else ls ++ k ∷ []) l
kept ls k l true h = h
kept ls k l false h = Contains-append_left ls (k ∷ []) l h

joined : (ls : List Literal) (k : Literal) (b : Bool) → has formulas ls k ≡ b → Contains (if b then ls else ls ++ k ∷ []) k
joined ls k true e = has-true ls k e
joined ls k false e = Contains-push ls k

pub contains-added : (ls ks : List Literal) (l : Literal) → Contains ls l ⊎ Contains ks l → Contains (added formulas ls ks) l
contains-added ls [] l h = ⊎_elim (λ c. c) (λ c. absurd (omega (arith, c.1))) h
contains-added ls (k ∷ ks) l h =
    let more = if has formulas ls k then ls else ls ++ k ∷ [] in
    contains-added more ks l
    (⊎_elim
    (λ c. inl (kept ls k l (has formulas ls k) c))
    (λ c. contains_cases (Contains more l ⊎ Contains ks l) l k ks c (λ same. inl (subst (Contains more) same (joined ls k (has formulas ls k) refl))) (λ later. inr later))
    h)
