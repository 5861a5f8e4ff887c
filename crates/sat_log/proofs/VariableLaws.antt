-- Which resolvents hold no variable twice.
use Rattle.std.proofs.Common.{◌≡◌, ◌⊎◌, not, Bool, true, false, List, [], ◌∷◌, ◌++◌, IsTrue, refl, sym, ap, ◌∙◌, inl, inr}
use Rattle.std.specs.Bool.{beq}
use Rattle.std.proofs.lemmas.Bool.{false≢true, cases_Bool, and_parts, and_from, and_right, and_cases, or_cases, or_left, or_right, false_from_ne_true, not-true, not_from_true, not_from_false}
use Rattle.sat_base.specs.declared.literal.Var.{Var}
use Rattle.sat_base.specs.declared.literal.SatLit.{SatLit}
use Rattle.sat_base.specs.Literal.{positive, negative, negated, same_var, same_literal, holds, mentions_variable, HoldsNoVariableTwice}
use Rattle.sat_base.proofs.LiteralLaws.{same_literal-refl, same_literal-true, sign_cases, holds-append, negated-negated, not_both, All-held}
use Rattle.sat_log.specs.Resolution.{without_literal, each_once, HasNoRepeats, resolvent, ClashesOnlyOn}
use Rattle.sat_log.specs.Propagation.{IsFalseIn, IsConsistent}
use Rattle.sat_log.proofs.ResolutionLaws.{holds-without, holds-without_repeats, without_repeats-without_repeats, HasNoRepeats-made, without-without_repeats}

-- a list that holds no variable twice holds no literal beside its negation
pub no_clash : (literals : List SatLit) (l : SatLit) → HoldsNoVariableTwice literals → holds literals l ≡ true → holds literals (negated l) ≡ true → ⊥
no_clash literals l once h n =
    elim (sign_cases l) [
      | inl is ↦ not_both literals l.var once (ap (holds literals) (sym is) ∙ h) (ap (λ (k : SatLit). holds literals (negated k)) (sym is) ∙ n)
      | inr is ↦ not_both literals l.var once (ap (λ (k : SatLit). holds literals (negated k)) (sym is) ∙ n) (ap (holds literals) (sym is) ∙ h)
    ]

beq_not : (a b : Bool) → beq a b ≡ false → beq (not a) b ≡ true
beq_not true true e = absurd (false≢true (sym e))
beq_not true false e = refl
beq_not false true e = refl
beq_not false false e = absurd (false≢true (sym e))

-- a variable that is mentioned is that of one of two literals
pub mentioned_as : (literals : List SatLit) (l : SatLit) → mentions_variable literals l.var ≡ true → (holds literals l ≡ true) ⊎ (holds literals (negated l) ≡ true)
mentioned_as [] l h = absurd (false≢true h)
mentioned_as (m ∷ literals) l h =
    elim (or_cases (same_var l.var m.var) (mentions_variable literals l.var) h) [
      | inl here ↦ elim (cases_Bool (same_literal l m)) [
        | inl same ↦ inl (or_left _ _ same)
        | inr other ↦ inr (or_left _ _ (and_from _ _ here (beq_not l.positive m.positive (elim (and_cases (same_var l.var m.var) (beq l.positive m.positive) other) [
          | inl no_var ↦ absurd (false≢true (sym no_var ∙ here))
          | inr no_sign ↦ no_sign
        ]))))
      ]
      | inr later ↦ elim (mentioned_as literals l later) [
        | inl again ↦ inl (or_right (same_literal l m) _ again)
        | inr denied ↦ inr (or_right (same_literal (negated l) m) _ denied)
      ]
    ]

tail_of : (x : SatLit) (xs ys : List SatLit) → x ∷ xs ≡ x ∷ ys → xs ≡ ys
tail_of x xs ys e = cc

-- a list without repeats that holds no literal beside its negation holds no variable twice
pub HoldsNoVariableTwice-from : (literals : List SatLit) → HasNoRepeats literals → IsConsistent literals → HoldsNoVariableTwice literals
HoldsNoVariableTwice-from [] once apart = tt
HoldsNoVariableTwice-from (l ∷ literals) once apart =
    let rest : without_literal l (each_once literals) ≡ literals = tail_of l (without_literal l (each_once literals)) literals once in
    let not_again : holds literals l ≡ false =
    ap (λ (ls : List SatLit). holds ls l) (sym rest)
    ∙ holds-without l (each_once literals) l
    ∙ and_right (holds (each_once literals) l) _ (not_from_true _ (same_literal-refl l)) in
    let once_rest = HasNoRepeats-made literals (without_literal l literals) (sym rest ∙ without-without_repeats l literals) in (
      false_from_ne_true (mentions_variable literals l.var) (λ t. elim (mentioned_as literals l t) [
        | inl again ↦ false≢true (sym not_again ∙ again)
        | inr denied ↦ apart l (or_left _ _ (same_literal-refl l)) (or_right (same_literal (negated l) l) _ denied)
      ]),
      HoldsNoVariableTwice-from literals once_rest (λ m h n. apart m (or_right (same_literal m l) _ h) (or_right (same_literal (negated m) l) _ n)),
    )

resolvent-HasNoRepeats : (v : Var) (a b : List SatLit) → HasNoRepeats (resolvent v a b)
resolvent-HasNoRepeats v a b = without_repeats-without_repeats (without_literal (positive v) a ++ without_literal (negative v) b)

-- where a literal of a resolvent comes from
holds-resolvent : (v : Var) (a b : List SatLit) (l : SatLit) → holds (resolvent v a b) l ≡ true
    → ((holds a l ≡ true) × (same_literal (positive v) l ≡ false)) ⊎ ((holds b l ≡ true) × (same_literal (negative v) l ≡ false))
holds-resolvent v a b l h =
    let in_parts = sym (holds-without_repeats (without_literal (positive v) a ++ without_literal (negative v) b) l ∙ holds-append (without_literal (positive v) a) (without_literal (negative v) b) l) ∙ h in
    elim (or_cases (holds (without_literal (positive v) a) l) (holds (without_literal (negative v) b) l) in_parts) [
      | inl first ↦ let parts = and_parts (holds a l) _ (sym (holds-without (positive v) a l) ∙ first) in inl (parts.0, not-true _ parts.1)
      | inr second ↦ let parts = and_parts (holds b l) _ (sym (holds-without (negative v) b l) ∙ second) in inr (parts.0, not-true _ parts.1)
    ]

holds-resolvent_first : (v : Var) (a b : List SatLit) (l : SatLit) → holds a l ≡ true → same_literal (positive v) l ≡ false → holds (resolvent v a b) l ≡ true
holds-resolvent_first v a b l h other =
    holds-without_repeats (without_literal (positive v) a ++ without_literal (negative v) b) l
    ∙ holds-append (without_literal (positive v) a) (without_literal (negative v) b) l
    ∙ or_left _ _ (holds-without (positive v) a l ∙ and_from _ _ h (not_from_false _ other))

holds-resolvent_second : (v : Var) (a b : List SatLit) (l : SatLit) → holds b l ≡ true → same_literal (negative v) l ≡ false → holds (resolvent v a b) l ≡ true
holds-resolvent_second v a b l h other =
    holds-without_repeats (without_literal (positive v) a ++ without_literal (negative v) b) l
    ∙ holds-append (without_literal (positive v) a) (without_literal (negative v) b) l
    ∙ or_right (holds (without_literal (positive v) a) l) _ (holds-without (negative v) b l ∙ and_from _ _ h (not_from_false _ other))

-- a literal that is the one on v is not another one
not_other : (k l : SatLit) → l ≡ k → same_literal k l ≡ false → ⊥
not_other k l e other = false≢true (sym other ∙ ap (same_literal k) e ∙ same_literal-refl k)

-- two clauses that clash on v alone have a resolvent that holds no variable twice
pub twice_from_clash : (v : Var) (a b : List SatLit) → HoldsNoVariableTwice a → HoldsNoVariableTwice b → ClashesOnlyOn v a b → HoldsNoVariableTwice (resolvent v a b)
twice_from_clash v a b once_a once_b clash =
    HoldsNoVariableTwice-from (resolvent v a b) (resolvent-HasNoRepeats v a b) (λ l h n.
    elim (holds-resolvent v a b l h) [
      | inl from_a ↦ elim (holds-resolvent v a b (negated l) n) [
        | inl also_a ↦ no_clash a l once_a from_a.0 also_a.0
        | inr from_b ↦ not_other (positive v) l (clash l from_a.0 from_b.0) from_a.1
      ]
      | inr from_b ↦ elim (holds-resolvent v a b (negated l) n) [
        | inl from_a ↦ not_other (positive v) (negated l) (clash (negated l) from_a.0 (ap (holds b) (negated-negated l) ∙ from_b.0)) from_a.1
        | inr also_b ↦ no_clash b l once_b from_b.0 also_b.0
      ]
    ])

-- and only those do
pub clash_from_twice : (v : Var) (a b : List SatLit) → HoldsNoVariableTwice (resolvent v a b) → ClashesOnlyOn v a b
clash_from_twice v a b once l h n =
    elim (cases_Bool (same_literal (positive v) l)) [
      | inl same ↦ sym (same_literal-true (positive v) l same)
      | inr other ↦
          let other_negation : same_literal (negative v) (negated l) ≡ false = false_from_ne_true _ (λ e.
          not_other (positive v) l (sym (negated-negated l) ∙ sym (ap negated (same_literal-true (negative v) (negated l) e))) other) in
          absurd (no_clash (resolvent v a b) l once (holds-resolvent_first v a b l h other) (holds-resolvent_second v a b (negated l) n other_negation))
    ]

-- a list that is false in a consistent one holds no literal beside its negation
pub twice_from_false : (literals : List SatLit) (v : Var) (a b : List SatLit) → IsConsistent literals → IsFalseIn literals (resolvent v a b) → HoldsNoVariableTwice (resolvent v a b)
twice_from_false literals v a b consistent each =
    HoldsNoVariableTwice-from (resolvent v a b) (resolvent-HasNoRepeats v a b) (λ l h n.
    let denied = λ (k : SatLit) (held : holds (resolvent v a b) k ≡ true). All-held (λ m. IsTrue (holds literals (negated m))) (resolvent v a b) k each held in
    consistent (negated l) (denied l h) (denied (negated l) n))
