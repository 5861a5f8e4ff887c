-- One step of the analysis of a conflict: the clause so far is resolved with the clause that made a literal true.
use Rattle.std.proofs.Common.{◌≡◌, ◌⊎◌, inl, inr, ◌<◌, ◌≤◌, ◌+◌, ◌-◌, ℕ, zero, suc, not, ◌&&◌, ◌||◌, Bool, true, false, List, [], ◌∷◌, ◌++◌, Some, length, take, drop, refl, sym, ap, ap₂, ◌∙◌, arith}
use Rattle.std.specs.Bool.{beq}
use Rattle.std.specs.List.{slice_get}
use Rattle.std.proofs.lemmas.Bool.{false≢true, cases_Bool, cases_order, or_cases, or_left, or_right, and_parts, and_from, false_from_ne_true, not-true, not_from_false}
use Rattle.std.proofs.lemmas.List.{take_more}
use Rattle.std.proofs.lemmas.Option.{slice_get_within, get_or_from_slice_get, same_Some}
use Rattle.sat_base.specs.declared.literal.Var.{Var}
use Rattle.sat_base.specs.declared.literal.SatLit.{SatLit}
use Rattle.sat_base.specs.Literal.{literal, positive, negative, negated, same_var, same_literal, holds, mentions_variable, HoldsNoVariableTwice}
use Rattle.sat_base.proofs.LiteralLaws.{same_var-refl, same_var-true, mentions-held, same_literal-true, same_literal-refl, sign_cases, holds-append, negated-negated}
use Rattle.sat_log.specs.Resolution.{without_literal, resolvent, resolved}
use Rattle.sat_log.specs.Propagation.{IsUnitClause, IsConsistent, IsNew}
use Rattle.sat_log.proofs.ResolutionLaws.{holds-without, holds-without_repeats}
use Rattle.sat_laws.specs.Internal.Analysis.{IsFalseBefore, one_if, how_many}
use Rattle.sat_laws.specs.Internal.Complete.{IsComplete}
use Rattle.sat_laws.proofs.CompleteLaws.{new_by_complete}
use Rattle.sat_laws.proofs.WatchLaws.{held-take}

-- what is in the resolvent of a, which holds v, and b, which holds its negation
held_resolvent : (v : Var) (a b : List SatLit) (l : SatLit)
    → holds (resolvent v a b) l ≡ ((holds a l && not (same_literal (positive v) l)) || (holds b l && not (same_literal (negative v) l)))
held_resolvent v a b l =
    holds-without_repeats (without_literal (positive v) a ++ without_literal (negative v) b) l
    ∙ holds-append (without_literal (positive v) a) (without_literal (negative v) b) l
    ∙ ap (λ (x : Bool). x || holds (without_literal (negative v) b) l) (holds-without (positive v) a l)
    ∙ ap (λ (x : Bool). (holds a l && not (same_literal (positive v) l)) || x) (holds-without (negative v) b l)

-- the outcome of a step on the literal t, which the reason holds and whose negation the clause so far holds: what each holds besides
pub record IsOutcome (t : SatLit) (so_far reason outcome : List SatLit) : Type 0 where
  pub from_either : (l : SatLit) → holds outcome l ≡ true → ((holds so_far l ≡ true) × (same_literal (negated t) l ≡ false)) ⊎ ((holds reason l ≡ true) × (same_literal t l ≡ false))
  pub from_first : (l : SatLit) → holds so_far l ≡ true → same_literal (negated t) l ≡ false → holds outcome l ≡ true
  pub from_second : (l : SatLit) → holds reason l ≡ true → same_literal t l ≡ false → holds outcome l ≡ true

outcome_of : (t p n : SatLit) (a b outcome : List SatLit) → ((l : SatLit) → holds outcome l ≡ ((holds a l && not (same_literal p l)) || (holds b l && not (same_literal n l))))
    → p ≡ negated t → n ≡ t → IsOutcome t a b outcome
outcome_of t p n a b outcome law p_is n_is = record {
  from_either = λ l h. elim (or_cases (holds a l && not (same_literal p l)) (holds b l && not (same_literal n l)) (sym (law l) ∙ h)) [
    | inl first ↦
        let parts = and_parts (holds a l) (not (same_literal p l)) first in
        inl (parts.0, ap (λ (k : SatLit). same_literal k l) (sym p_is) ∙ not-true _ parts.1)
    | inr second ↦
        let parts = and_parts (holds b l) (not (same_literal n l)) second in
        inr (parts.0, ap (λ (k : SatLit). same_literal k l) (sym n_is) ∙ not-true _ parts.1)
  ];
  from_first = λ l h apart. law l ∙ or_left _ _ (and_from _ _ h (not_from_false _ (ap (λ (k : SatLit). same_literal k l) p_is ∙ apart)));
  from_second = λ l h apart. law l ∙ or_right (holds a l && not (same_literal p l)) _ (and_from _ _ h (not_from_false _ (ap (λ (k : SatLit). same_literal k l) n_is ∙ apart)));
}

outcome_flipped : (t p n : SatLit) (a b outcome : List SatLit) → ((l : SatLit) → holds outcome l ≡ ((holds b l && not (same_literal p l)) || (holds a l && not (same_literal n l))))
    → n ≡ negated t → p ≡ t → IsOutcome t a b outcome
outcome_flipped t p n a b outcome law n_is p_is = record {
  from_either = λ l h. elim (or_cases (holds b l && not (same_literal p l)) (holds a l && not (same_literal n l)) (sym (law l) ∙ h)) [
    | inl second ↦
        let parts = and_parts (holds b l) (not (same_literal p l)) second in
        inr (parts.0, ap (λ (k : SatLit). same_literal k l) (sym p_is) ∙ not-true _ parts.1)
    | inr first ↦
        let parts = and_parts (holds a l) (not (same_literal n l)) first in
        inl (parts.0, ap (λ (k : SatLit). same_literal k l) (sym n_is) ∙ not-true _ parts.1)
  ];
  from_first = λ l h apart. law l ∙ or_right (holds b l && not (same_literal p l)) _ (and_from _ _ h (not_from_false _ (ap (λ (k : SatLit). same_literal k l) n_is ∙ apart)));
  from_second = λ l h apart. law l ∙ or_left _ _ (and_from _ _ h (not_from_false _ (ap (λ (k : SatLit). same_literal k l) p_is ∙ apart)));
}

-- the step resolves, where the clause so far holds the negation of t and not t, and the reason holds t
pub step_resolves : (t : SatLit) (so_far reason : List SatLit) → holds so_far (negated t) ≡ true → holds so_far t ≡ false → holds reason t ≡ true
    → (outcome : List SatLit) × (resolved t.var so_far reason ≡ Some outcome) × IsOutcome t so_far reason outcome
step_resolves t so_far reason denied untrue held =
    elim (sign_cases t) [
      | inl is ↦
          let negation : negated t ≡ negative t.var = ap negated is in
          let first : (holds so_far (positive t.var) && holds reason (negative t.var)) ≡ false = ap (λ (b : Bool). b && holds reason (negative t.var)) (ap (holds so_far) (sym is) ∙ untrue) in
          let second : (holds so_far (negative t.var) && holds reason (positive t.var)) ≡ true = and_from _ _ (ap (holds so_far) (sym negation) ∙ denied) (ap (holds reason) (sym is) ∙ held) in
          let made : resolved t.var so_far reason ≡ Some (resolvent t.var reason so_far) = simp (first, second) in
          (resolvent t.var reason so_far, made, outcome_flipped t (positive t.var) (negative t.var) so_far reason (resolvent t.var reason so_far) (held_resolvent t.var reason so_far) (sym negation) (sym is))
      | inr is ↦
          let negation : negated t ≡ positive t.var = ap negated is in
          let first : (holds so_far (positive t.var) && holds reason (negative t.var)) ≡ true = and_from _ _ (ap (holds so_far) (sym negation) ∙ denied) (ap (holds reason) (sym is) ∙ held) in
          let made : resolved t.var so_far reason ≡ Some (resolvent t.var so_far reason) = simp first in
          (resolvent t.var so_far reason, made, outcome_of t (positive t.var) (negative t.var) so_far reason (resolvent t.var so_far reason) (held_resolvent t.var so_far reason) (sym negation) (sym is))
    ]

-- the outcome is false before the place of t, where the clause so far is false up to it and the reason made t true there
pub outcome_false : (trail so_far reason outcome : List SatLit) (place : ℕ) (t : SatLit) → slice_get trail place ≡ Some t → IsFalseBefore (place + 1) trail so_far
    → IsUnitClause (take place trail) reason t → IsOutcome t so_far reason outcome → IsFalseBefore place trail outcome
outcome_false trail so_far reason outcome place t at below unit made l h =
    elim (made.from_either l h) [
      | inl first ↦ elim (held_next trail place t (negated l) at (below l first.0)) [
        | inl before ↦ before
        | inr here ↦
            let same : negated t ≡ l = ap negated (sym here) ∙ negated-negated l in
            absurd (false≢true (sym first.1 ∙ ap (same_literal (negated t)) (sym same) ∙ same_literal-refl (negated t)))
      ]
      | inr second ↦ unit.others l second.0 (λ e. false≢true (sym second.1 ∙ ap (same_literal t) e ∙ same_literal-refl t))
    ]
  where
    held_next : (trail : List SatLit) (place : ℕ) (t m : SatLit) → slice_get trail place ≡ Some t → holds (take (place + 1) trail) m ≡ true → (holds (take place trail) m ≡ true) ⊎ (m ≡ t)
    held_next trail place t m at h =
        let inside : place < length trail = slice_get_within trail place t at in
        let longer : take (place + 1) trail ≡ take place trail ++ t ∷ [] =
        take_more trail place t inside ∙ ap (λ (k : SatLit). take place trail ++ k ∷ []) (get_or_from_slice_get trail place t t at) in
        elim (or_cases (holds (take place trail) m) (same_literal m t || false) (sym (holds-append (take place trail) (t ∷ []) m) ∙ ap (λ (some : List SatLit). holds some m) (sym longer) ∙ h)) [
          | inl before ↦ inl before
          | inr last ↦ elim (or_cases (same_literal m t) false last) [
            | inl same ↦ inr (same_literal-true m t same)
            | inr never ↦ absurd (false≢true never)
          ]
        ]

-- the learned clause is new: one of its literals is false only after a decision up to which the trail was complete, the others were false
-- by then
pub learned_new : (clauses : List (List SatLit)) (trail learned : List SatLit) (s : ℕ) (t : SatLit) → IsComplete clauses (take s trail) → IsConsistent trail → holds trail t ≡ true
    → holds learned (negated t) ≡ true → ((l : SatLit) → holds learned l ≡ true → same_literal (negated t) l ≡ false → holds (take s trail) (negated l) ≡ true) → IsNew clauses learned
learned_new clauses trail learned s t complete consistent there member others =
    new_by_complete clauses (take s trail) learned (negated t) complete member
    (false_from_ne_true (holds (take s trail) (negated t)) (λ h. consistent t there (held-take s trail (negated t) h))) others

pub one_at_least : (p : SatLit → Bool) (xs : List SatLit) (i : ℕ) (x : SatLit) → slice_get xs i ≡ Some x → p x ≡ true → 1 ≤ how_many p xs
one_at_least p [] i x at h = absurd (cc)
one_at_least p (z ∷ xs) zero x at h =
    let same : z ≡ x = same_Some z x at in
    let first : one_if (p z) ≡ 1 = ap (λ (k : SatLit). one_if (p k)) same ∙ ap one_if h in
    omega arith
one_at_least p (z ∷ xs) (suc i) x at h = let rest = one_at_least p xs i x at h in omega arith

-- where one literal of a list is counted, the places of two counted ones are the same
pub one_only : (p : SatLit → Bool) (xs : List SatLit) (i j : ℕ) (x y : SatLit) → how_many p xs ≡ 1 → slice_get xs i ≡ Some x → p x ≡ true → slice_get xs j ≡ Some y → p y ≡ true → i ≡ j
one_only p [] i j x y one at_x p_x at_y p_y = absurd (cc)
one_only p (z ∷ xs) zero zero x y one at_x p_x at_y p_y = refl
one_only p (z ∷ xs) zero (suc j) x y one at_x p_x at_y p_y =
    let first : one_if (p z) ≡ 1 = ap (λ (k : SatLit). one_if (p k)) (same_Some z x at_x) ∙ ap one_if p_x in
    let rest = one_at_least p xs j y at_y p_y in
    absurd (omega arith)
one_only p (z ∷ xs) (suc i) zero x y one at_x p_x at_y p_y =
    let first : one_if (p z) ≡ 1 = ap (λ (k : SatLit). one_if (p k)) (same_Some z y at_y) ∙ ap one_if p_y in
    let rest = one_at_least p xs i x at_x p_x in
    absurd (omega arith)
one_only p (z ∷ xs) (suc i) (suc j) x y one at_x p_x at_y p_y =
    elim (cases_Bool (p z)) [
      | inl passes ↦
          let first : one_if (p z) ≡ 1 = ap one_if passes in
          let rest = one_at_least p xs i x at_x p_x in
          absurd (omega arith)
      | inr fails ↦
          let first : one_if (p z) ≡ 0 = ap one_if fails in
          let rest : how_many p xs ≡ 1 = omega arith in
          ap suc (one_only p xs i j x y rest at_x p_x at_y p_y)
    ]

-- a test that passes one literal more counts one more, where that literal stands in the list once
pub how_many-same : (p q : SatLit → Bool) (xs : List SatLit) → ((l : SatLit) → holds xs l ≡ true → q l ≡ p l) → how_many q xs ≡ how_many p xs
how_many-same p q [] same = refl
how_many-same p q (x ∷ xs) same =
    let first : one_if (q x) ≡ one_if (p x) = ap one_if (same x (or_left _ _ (same_literal-refl x))) in
    let rest = how_many-same p q xs (λ l h. same l (or_right (same_literal l x) _ h)) in
    omega arith

pub how_many-more : (p q : SatLit → Bool) (xs : List SatLit) (m : SatLit) → HoldsNoVariableTwice xs → holds xs m ≡ true → p m ≡ false → q m ≡ true
    → ((l : SatLit) → same_var l.var m.var ≡ false → q l ≡ p l) → how_many q xs ≡ how_many p xs + 1
how_many-more p q [] m once there p_m q_m same = absurd (false≢true there)
how_many-more p q (x ∷ xs) m once there p_m q_m same =
    elim (or_cases (same_literal m x) (holds xs m) there) [
      | inl here ↦
          let is : m ≡ x = same_literal-true m x here in
          let first_p : one_if (p x) ≡ 0 = ap (λ (k : SatLit). one_if (p k)) (sym is) ∙ ap one_if p_m in
          let first_q : one_if (q x) ≡ 1 = ap (λ (k : SatLit). one_if (q k)) (sym is) ∙ ap one_if q_m in
          let rest : how_many q xs ≡ how_many p xs = how_many-same p q xs (λ l h. same l (var_apart l is h)) in
          omega arith
      | inr later ↦
          let apart : same_var x.var m.var ≡ false = false_from_ne_true (same_var x.var m.var) (λ t.
          false≢true (sym once.0 ∙ ap (mentions_variable xs) (same_var-true x.var m.var t) ∙ mentions-held xs m later)) in
          let first : one_if (q x) ≡ one_if (p x) = ap one_if (same x apart) in
          let rest = how_many-more p q xs m once.1 later p_m q_m same in
          omega arith
    ]
  where
    var_apart : (l : SatLit) → m ≡ x → holds xs l ≡ true → same_var l.var m.var ≡ false
    var_apart l is h = false_from_ne_true (same_var l.var m.var) (λ t.
        false≢true (sym once.0 ∙ ap (mentions_variable xs) (ap (λ (k : SatLit). k.var) (sym is) ∙ sym (same_var-true l.var m.var t)) ∙ mentions-held xs l h))

-- tests that pass together are the same
same_tests : (a b : Bool) → (a ≡ true → b ≡ true) → (b ≡ true → a ≡ true) → a ≡ b
same_tests true b f g = sym (f refl)
same_tests false true f g = absurd (false≢true (g refl))
same_tests false false f g = refl

pub mentioned_by : (some : List SatLit) (v : Var) → mentions_variable some v ≡ true → (l : SatLit) × (holds some l ≡ true) × (l.var ≡ v)
mentioned_by [] v h = absurd (false≢true h)
mentioned_by (m ∷ some) v h =
    elim (or_cases (same_var v m.var) (mentions_variable some v) h) [
      | inl here ↦ (m, or_left _ _ (same_literal-refl m), sym (same_var-true v m.var here))
      | inr later ↦ let found = mentioned_by some v later in (found.0, or_right (same_literal found.0 m) _ found.1, found.2)
    ]

mentions_of : (some : List SatLit) (v : Var) (l : SatLit) → holds some l ≡ true → l.var ≡ v → mentions_variable some v ≡ true
mentions_of some v l h e = ap (mentions_variable some) (sym e) ∙ mentions-held some l h

other_literal : (a b : SatLit) → same_var a.var b.var ≡ true → same_literal b a ≡ false → a ≡ negated b
other_literal a b same apart = go a.positive b.positive refl refl
  where
    go : (x y : Bool) → a.positive ≡ x → b.positive ≡ y → a ≡ negated b
    go true true p q = absurd (false≢true (sym apart ∙ and_from _ _ (ap (same_var b.var) (same_var-true a.var b.var same) ∙ same_var-refl b.var) (ap₂ beq q p)))
    go false false p q = absurd (false≢true (sym apart ∙ and_from _ _ (ap (same_var b.var) (same_var-true a.var b.var same) ∙ same_var-refl b.var) (ap₂ beq q p)))
    go true false p q = ap₂ literal (same_var-true a.var b.var same) (p ∙ sym (ap not q))
    go false true p q = ap₂ literal (same_var-true a.var b.var same) (p ∙ sym (ap not q))

-- the variables of the outcome: those of the clause so far other than that of t, and those of the reason without t
pub outcome_mentions : (t : SatLit) (so_far reason outcome : List SatLit) → IsOutcome t so_far reason outcome → holds so_far t ≡ false → holds reason (negated t) ≡ false
    → (v : Var) → mentions_variable outcome v ≡ ((mentions_variable so_far v && not (same_var v t.var)) || mentions_variable (without_literal t reason) v)
outcome_mentions t so_far reason outcome made untrue undenied v =
    same_tests (mentions_variable outcome v) ((mentions_variable so_far v && not (same_var v t.var)) || mentions_variable (without_literal t reason) v)
    (λ h.
    let l = mentioned_by outcome v h in
    elim (made.from_either l.0 l.1) [
      | inl first ↦ or_left _ _ (and_from _ _ (mentions_of so_far v l.0 first.0 l.2) (not_from_false _ (false_from_ne_true (same_var v t.var) (λ same.
          let var_same : same_var l.0.var t.var ≡ true = ap (λ (w : Var). same_var w t.var) l.2 ∙ same in
          elim (cases_Bool (same_literal t l.0)) [
            | inl is ↦ false≢true (sym untrue ∙ ap (holds so_far) (same_literal-true t l.0 is) ∙ first.0)
            | inr is_not ↦ false≢true (sym first.1 ∙ ap (same_literal (negated t)) (other_literal l.0 t var_same is_not) ∙ same_literal-refl (negated t))
          ]))))
      | inr second ↦ or_right (mentions_variable so_far v && not (same_var v t.var)) _
          (mentions_of (without_literal t reason) v l.0 (holds-without t reason l.0 ∙ and_from _ _ second.0 (not_from_false _ second.1)) l.2)
    ])
    (λ h. elim (or_cases (mentions_variable so_far v && not (same_var v t.var)) (mentions_variable (without_literal t reason) v) h) [
      | inl first ↦
          let parts = and_parts (mentions_variable so_far v) (not (same_var v t.var)) first in
          let l = mentioned_by so_far v parts.0 in
          mentions_of outcome v l.0 (made.from_first l.0 l.1 (false_from_ne_true (same_literal (negated t) l.0) (λ is.
          false≢true (sym (not-true _ parts.1) ∙ ap (λ (w : Var). same_var w t.var) (sym l.2 ∙ ap (λ (k : SatLit). k.var) (sym (same_literal-true (negated t) l.0 is))) ∙ same_var-refl t.var)))) l.2
      | inr second ↦
          let l = mentioned_by (without_literal t reason) v second in
          let parts = and_parts (holds reason l.0) (not (same_literal t l.0)) (sym (holds-without t reason l.0) ∙ l.1) in
          mentions_of outcome v l.0 (made.from_second l.0 parts.0 (not-true _ parts.1)) l.2
    ])

-- a literal among the first ones of a trail stands at some place
pub place_below : (trail : List SatLit) (n : ℕ) (l : SatLit) → holds (take n trail) l ≡ true → (i : ℕ) × (i < n) × (slice_get trail i ≡ Some l)
place_below trail zero l h = absurd (false≢true h)
place_below [] (suc n) l h = absurd (false≢true h)
place_below (m ∷ trail) (suc n) l h =
    elim (or_cases (same_literal l m) (holds (take n trail) l) h) [
      | inl here ↦ (zero, omega arith, ap Some (sym (same_literal-true l m here)))
      | inr later ↦ let some = place_below trail n l later in (suc some.0, omega arith, some.2)
    ]

pub held_below : (trail : List SatLit) (n i : ℕ) (l : SatLit) → i < n → slice_get trail i ≡ Some l → holds (take n trail) l ≡ true
held_below [] n i l h at = absurd (cc)
held_below (m ∷ trail) zero i l h at = absurd (omega arith)
held_below (m ∷ trail) (suc n) zero l h at = or_left _ _ (ap (same_literal l) (same_Some m l at) ∙ same_literal-refl l)
held_below (m ∷ trail) (suc n) (suc i) l h at = or_right (same_literal l m) _ (held_below trail n i l (omega arith) at)

pub get-drop : (trail : List SatLit) (s i : ℕ) (l : SatLit) → s ≤ i → slice_get trail i ≡ Some l → slice_get (drop s trail) (i - s) ≡ Some l
get-drop trail zero i l h at = ap (λ (k : ℕ). slice_get trail k) (omega arith) ∙ at
get-drop [] (suc s) i l h at = absurd (cc)
get-drop (m ∷ trail) (suc s) zero l h at = absurd (omega arith)
get-drop (m ∷ trail) (suc s) (suc i) l h at = let same : suc i - suc s ≡ i - s = omega arith in ap (λ (k : ℕ). slice_get (drop s trail) k) same ∙ get-drop trail s i l (omega arith) at

-- where one literal from s on is counted, which is the last one, the others of the clause were false at s
pub others_before : (trail so_far : List SatLit) (p : SatLit → Bool) (s place : ℕ) (t : SatLit) → s ≤ place → slice_get trail place ≡ Some t → IsFalseBefore (place + 1) trail so_far
    → ((l : SatLit) → holds so_far l ≡ true → p (negated l) ≡ true) → p t ≡ true → how_many p (drop s trail) ≡ 1
    → (l : SatLit) → holds so_far l ≡ true → same_literal (negated t) l ≡ false → holds (take s trail) (negated l) ≡ true
others_before trail so_far p s place t late at below counted t_counted one l h apart =
    let found = place_below trail (place + 1) (negated l) (below l h) in
    elim (cases_order found.0 s) [
      | inl here ↦ absurd (clash found.0 found.2 (omega arith))
      | inr other ↦ elim other [
        | inl before ↦ held_below trail s found.0 (negated l) before found.2
        | inr after ↦ absurd (clash found.0 found.2 (omega arith))
      ]
    ]
  where
    clash : (i : ℕ) → slice_get trail i ≡ Some (negated l) → s ≤ i → ⊥
    clash i at_i from =
        let same_place = one_only p (drop s trail) (place - s) (i - s) t (negated l) one (get-drop trail s place t late at) t_counted (get-drop trail s i (negated l) from at_i) (counted l h) in
        let same : i ≡ place = omega arith in
        let is : negated l ≡ t = same_Some (negated l) t (sym at_i ∙ ap (slice_get trail) same ∙ at) in
        false≢true (sym apart ∙ ap (same_literal (negated t)) (sym (negated-negated l) ∙ ap negated is) ∙ same_literal-refl (negated t))
