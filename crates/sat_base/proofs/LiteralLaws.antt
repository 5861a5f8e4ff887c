-- Facts about literals, and about which of them a list holds.
use Rattle.std.proofs.Common.{◌≡◌, ◌⊎◌, ◌||◌, not, ℕ, Bool, true, false, List, [], ◌∷◌, ◌++◌, refl, sym, ap, ap₂, ◌∙◌, subst, inl, inr}
use Rattle.std.proofs.lemmas.Bool.{false≢true, and_parts, and_from, or_cases, or_left, or_right, eqb-true, eq-eqb}
use Rattle.std.proofs.lemmas.List.Folds.{list_any-append}
use Rattle.std.proofs.lemmas.List.Elements.{All-nil, All-cons, All-head, All-tail}
use Rattle.std.specs.Bool.{beq}
use Rattle.std.specs.List.{All}
use Rattle.sat_base.specs.declared.literal.Var.{Var}
use Rattle.sat_base.specs.declared.literal.SatLit.{SatLit}
use Rattle.sat_base.specs.Literal.{literal, positive, negative, negated, same_var, same_literal, holds, mentions_variable, HoldsNoVariableTwice}

-- the tests for equality tell the truth
pub same_var-refl : (v : Var) → same_var v v ≡ true
same_var-refl v = eq-eqb v.0 v.0 refl

pub same_var-true : (v w : Var) → same_var v w ≡ true → v ≡ w
same_var-true v w e = ap (λ (n : ℕ). let u : Var = record { 0 = n } in u) (eqb-true v.0 w.0 e)

beq-refl : (a : Bool) → beq a a ≡ true
beq-refl true = refl
beq-refl false = refl

beq-true : (a b : Bool) → beq a b ≡ true → a ≡ b
beq-true true true e = refl
beq-true false false e = refl
beq-true true false e = absurd (false≢true e)
beq-true false true e = absurd (false≢true e)

pub same_literal-refl : (l : SatLit) → same_literal l l ≡ true
same_literal-refl l = and_from _ _ (same_var-refl l.var) (beq-refl l.positive)

pub same_literal-true : (l m : SatLit) → same_literal l m ≡ true → l ≡ m
same_literal-true l m e =
    let parts = and_parts (same_var l.var m.var) (beq l.positive m.positive) e in
    ap₂ literal (same_var-true l.var m.var parts.0) (beq-true l.positive m.positive parts.1)

pub same_literal-comm : (l m : SatLit) → same_literal l m ≡ same_literal m l
same_literal-comm l m = go (same_literal l m) (same_literal m l) refl refl
  where
    go : (a b : Bool) → same_literal l m ≡ a → same_literal m l ≡ b → a ≡ b
    go true true p q = refl
    go false false p q = refl
    go true false p q = absurd (false≢true (sym q ∙ subst (λ k. same_literal k l ≡ true) (same_literal-true l m p) (same_literal-refl l)))
    go false true p q = absurd (false≢true (sym p ∙ subst (λ k. same_literal k m ≡ true) (same_literal-true m l q) (same_literal-refl m)))

pub negated-negated : (l : SatLit) → negated (negated l) ≡ l
negated-negated l = ap (literal l.var) (go l.positive)
  where
    go : (b : Bool) → not (not b) ≡ b
    go true = refl
    go false = refl

-- no literal is its negation
pub same_literal-negated : (l : SatLit) → same_literal l (negated l) ≡ false
same_literal-negated l = go l.positive refl
  where
    go : (b : Bool) → l.positive ≡ b → same_literal l (negated l) ≡ false
    go true e = rw e (rw same_var-refl refl)
    go false e = rw e (rw same_var-refl refl)

-- a literal is the positive or the negative one on its variable
pub sign_cases : (l : SatLit) → (l ≡ positive l.var) ⊎ (l ≡ negative l.var)
sign_cases l = go l.positive refl
  where
    go : (b : Bool) → l.positive ≡ b → (l ≡ positive l.var) ⊎ (l ≡ negative l.var)
    go true e = inl (ap (literal l.var) e)
    go false e = inr (ap (literal l.var) e)

pub holds-append : (xs ys : List SatLit) (l : SatLit) → holds (xs ++ ys) l ≡ (holds xs l || holds ys l)
holds-append xs ys l = list_any-append (same_literal l) xs ys

-- a variable of a literal that is held is mentioned
pub mentions-held : (literals : List SatLit) (l : SatLit) → holds literals l ≡ true → mentions_variable literals l.var ≡ true
mentions-held [] l h = absurd (false≢true h)
mentions-held (m ∷ literals) l h =
    elim (or_cases (same_literal l m) (holds literals l) h) [
      | inl e ↦ or_left _ _ (and_parts (same_var l.var m.var) _ e).0
      | inr t ↦ or_right _ _ (mentions-held literals l t)
    ]

-- a clause that holds no variable twice holds no literal beside its negation
pub not_both : (literals : List SatLit) (v : Var) → HoldsNoVariableTwice literals → holds literals (positive v) ≡ true → holds literals (negative v) ≡ true → ⊥
not_both [] v apart p n = false≢true p
not_both (l ∷ literals) v apart p n =
    elim (or_cases (same_literal (positive v) l) (holds literals (positive v)) p) [
      | inl here ↦ elim (or_cases (same_literal (negative v) l) (holds literals (negative v)) n) [
        | inl also ↦ let same : positive v ≡ negative v = same_literal-true (positive v) l here ∙ sym (same_literal-true (negative v) l also) in cc
        | inr later ↦ false≢true (sym apart.0 ∙ subst (λ (w : Var). mentions_variable literals w ≡ true) (ap (λ (k : SatLit). k.var) (same_literal-true (positive v) l here)) (mentions-held literals (negative v) later))
      ]
      | inr later ↦ elim (or_cases (same_literal (negative v) l) (holds literals (negative v)) n) [
        | inl here ↦ false≢true (sym apart.0 ∙ subst (λ (w : Var). mentions_variable literals w ≡ true) (ap (λ (k : SatLit). k.var) (same_literal-true (negative v) l here)) (mentions-held literals (positive v) later))
        | inr also ↦ not_both literals v apart.1 later also
      ]
    ]

-- what holds of each literal of a list holds of one that is held
pub All-held : (P : SatLit → Type 0) (literals : List SatLit) (l : SatLit) → All P literals → holds literals l ≡ true → P l
All-held P [] l each h = absurd (false≢true h)
All-held P (m ∷ literals) l each h =
    elim (or_cases (same_literal l m) (holds literals l) h) [
      | inl e ↦ subst P (sym (same_literal-true l m e)) (All-head P m literals each)
      | inr t ↦ All-held P literals l (All-tail P m literals each) t
    ]

pub All-from_held : (P : SatLit → Type 0) (literals : List SatLit) → ((l : SatLit) → holds literals l ≡ true → P l) → All P literals
All-from_held P [] each = All-nil P
All-from_held P (m ∷ literals) each =
    All-cons P m literals (each m (or_left _ _ (same_literal-refl m)))
    (All-from_held P literals (λ l h. each l (or_right (same_literal l m) _ h)))
