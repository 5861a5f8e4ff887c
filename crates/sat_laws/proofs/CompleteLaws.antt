-- Facts about complete lists of literals.
use Rattle.std.proofs.Common.{◌≡◌, ◌≢◌, inl, inr, ◌||◌, not, true, false, List, [], ◌∷◌, ◌++◌, IsTrue, map, sym, ap, ◌∙◌, subst, append-nil, append_assoc}
use Rattle.std.specs.List.{Contains}
use Rattle.std.proofs.lemmas.Bool.{false≢true, cases_Bool, or_cases, or_left, or_right, and_parts, not-true}
use Rattle.sat_base.specs.declared.literal.SatLit.{SatLit}
use Rattle.sat_base.specs.Literal.{negated, same_literal, holds, HoldsNoVariableTwice}
use Rattle.sat_base.proofs.LiteralLaws.{same_literal-refl, same_literal-true, holds-append, negated-negated, All-held, All-from_held}
use Rattle.sat_log.proofs.ResolutionLaws.{holds-without}
use Rattle.sat_log.specs.Resolution.{without_literal}
use Rattle.sat_log.specs.Propagation.{IsUnitClause, IsFalseIn, IsConsistent, Propagates, IsPropagation, Reaches, ReachesFalse, IsNew}
use Rattle.sat_log.proofs.VariableLaws.{no_clash}
use Rattle.sat_laws.specs.Internal.Complete.{satisfies, IsClausePart, IsComplete}

-- a list that holds no variable twice is consistent
pub consistent_once : (literals : List SatLit) → HoldsNoVariableTwice literals → IsConsistent literals
consistent_once literals once l h n = no_clash literals l once h n

-- a satisfied clause has a true literal
pub true_literal : (literals clause : List SatLit) → satisfies literals clause ≡ true → (l : SatLit) × (holds clause l ≡ true) × (holds literals l ≡ true)
true_literal literals [] h = absurd (false≢true h)
true_literal literals (l ∷ clause) h =
    elim (or_cases (holds literals l) (satisfies literals clause) h) [
      | inl here ↦ (l, or_left _ _ (same_literal-refl l), here)
      | inr later ↦
          let some = true_literal literals clause later in
          (some.0, or_right (same_literal some.0 l) _ some.1, some.2)
    ]

pub satisfied_by : (literals clause : List SatLit) (l : SatLit) → holds clause l ≡ true → holds literals l ≡ true → satisfies literals clause ≡ true
satisfied_by literals [] l h t = absurd (false≢true h)
satisfied_by literals (m ∷ clause) l h t =
    elim (or_cases (same_literal l m) (holds clause l) h) [
      | inl here ↦ or_left _ _ (ap (holds literals) (sym (same_literal-true l m here)) ∙ t)
      | inr later ↦ or_right (holds literals m) _ (satisfied_by literals clause l later t)
    ]

-- more literals satisfy no less
pub satisfies-more : (literals more clause : List SatLit) → ((l : SatLit) → holds literals l ≡ true → holds more l ≡ true) → satisfies literals clause ≡ true → satisfies more clause ≡ true
satisfies-more literals more clause within h =
    let some = true_literal literals clause h in
    satisfied_by more clause some.0 some.1 (within some.0 some.2)

-- a satisfied clause is not false
satisfied_not_false : (literals clause : List SatLit) → IsConsistent literals → satisfies literals clause ≡ true → IsFalseIn literals clause → ⊥
satisfied_not_false literals clause consistent h each =
    let some = true_literal literals clause h in
    consistent some.0 some.2 (All-held (λ m. IsTrue (holds literals (negated m))) clause some.0 each some.1)

-- a literal of a satisfied clause that is the only one whose negation is not held is held
satisfied_unit : (literals clause : List SatLit) (l : SatLit) → IsConsistent literals → satisfies literals clause ≡ true → IsUnitClause literals clause l → holds literals l ≡ true
satisfied_unit literals clause l consistent h unit =
    let some = true_literal literals clause h in
    elim (cases_Bool (same_literal some.0 l)) [
      | inl same ↦ ap (holds literals) (sym (same_literal-true some.0 l same)) ∙ some.2
      | inr other ↦ absurd (consistent some.0 some.2 (unit.others some.0 some.1
          (λ e. false≢true (sym other ∙ subst (λ (k : SatLit). same_literal some.0 k ≡ true) e (same_literal-refl some.0)))))
    ]

-- two literals of a clause, which is satisfied where one of them is false: it is not false, and no literal is missing
pub watched_not_false : (literals clause : List SatLit) (a b : SatLit) → IsConsistent literals → holds clause a ≡ true
    → (holds literals (negated a) ≡ true → satisfies literals clause ≡ true) → IsFalseIn literals clause → ⊥
watched_not_false literals clause a b consistent a_in guard each =
    satisfied_not_false literals clause consistent
    (guard (All-held (λ m. IsTrue (holds literals (negated m))) clause a each a_in)) each

pub watched_unit : (literals clause : List SatLit) (a b : SatLit) → IsConsistent literals → holds clause a ≡ true → holds clause b ≡ true → a ≢ b
    → (holds literals (negated a) ≡ true → satisfies literals clause ≡ true) → (holds literals (negated b) ≡ true → satisfies literals clause ≡ true)
    → (l : SatLit) → IsUnitClause literals clause l → holds literals l ≡ true
watched_unit literals clause a b consistent a_in b_in apart guard_a guard_b l unit =
    elim (cases_Bool (same_literal a l)) [
      | inl same ↦ satisfied_unit literals clause l consistent
          (guard_b (unit.others b b_in (λ e. apart (same_literal-true a l same ∙ sym e)))) unit
      | inr other ↦ satisfied_unit literals clause l consistent
          (guard_a (unit.others a a_in (λ e. false≢true (sym other ∙ subst (λ (k : SatLit). same_literal a k ≡ true) e (same_literal-refl a))))) unit
    ]

pub satisfied_complete_unit : (literals clause : List SatLit) → IsConsistent literals → satisfies literals clause ≡ true → (l : SatLit) → IsUnitClause literals clause l → holds literals l ≡ true
satisfied_complete_unit literals clause consistent h l unit = satisfied_unit literals clause l consistent h unit

pub satisfied_complete : (literals clause : List SatLit) → IsConsistent literals → satisfies literals clause ≡ true → IsFalseIn literals clause → ⊥
satisfied_complete literals clause consistent h each = satisfied_not_false literals clause consistent h each

pub IsWithin-push : (some literals : List SatLit) (m : SatLit) → IsClausePart some literals → holds literals m ≡ true → IsClausePart (some ++ m ∷ []) literals
IsWithin-push some literals m within m_in l t =
    elim (or_cases (holds some l) (same_literal l m || false) (sym (holds-append some (m ∷ []) l) ∙ t)) [
      | inl before ↦ within l before
      | inr last ↦ elim (or_cases (same_literal l m) false last) [
        | inl same ↦ ap (holds literals) (same_literal-true l m same) ∙ m_in
        | inr never ↦ absurd (false≢true never)
      ]
    ]

-- a literal that is propagated from literals of a complete list is in it
held_unit : (clauses : List (List SatLit)) (literals earlier clause : List SatLit) (l : SatLit) → IsComplete clauses literals → IsClausePart earlier literals
    → Contains clauses clause → IsUnitClause earlier clause l → holds literals l ≡ true
held_unit clauses literals earlier clause l complete within there unit =
    elim (cases_Bool (holds literals (negated l))) [
      | inl denied ↦ absurd (complete.none_false clause there (All-from_held (λ m. IsTrue (holds literals (negated m))) clause (λ m h.
          elim (cases_Bool (same_literal m l)) [
            | inl same ↦ ap (λ (k : SatLit). holds literals (negated k)) (same_literal-true m l same) ∙ denied
            | inr other ↦ within (negated m) (unit.others m h (λ e. false≢true (sym other ∙ subst (λ (k : SatLit). same_literal m k ≡ true) e (same_literal-refl m))))
          ])))
      | inr undenied ↦ complete.units_held clause l there (record {
        member = unit.member;
        still_open = undenied;
        others = λ m h apart. within (negated m) (unit.others m h apart);
      })
    ]

-- what is propagated from literals of a complete list is in it
pub propagated_within : (clauses : List (List SatLit)) (literals earlier later : List SatLit) → IsComplete clauses literals
    → IsClausePart earlier literals → Propagates clauses earlier later → IsClausePart (earlier ++ later) literals
propagated_within clauses literals earlier [] complete within p =
    subst (λ (some : List SatLit). IsClausePart some literals) (sym (append-nil earlier)) within
propagated_within clauses literals earlier (m ∷ later) complete within p =
    let some = p.0 in
    let m_in : holds literals m ≡ true = held_unit clauses literals earlier some.1 m complete within (some.0, some.2, some.3) some.4 in
    subst (λ (some : List SatLit). IsClausePart some literals) (append_assoc earlier (m ∷ []) later)
    (propagated_within clauses literals (earlier ++ m ∷ []) later complete (IsWithin-push earlier literals m within m_in) p.1)

pub propagation_within : (clauses : List (List SatLit)) (literals given reached : List SatLit) → IsComplete clauses literals
    → IsClausePart given literals → IsPropagation clauses given reached → IsClausePart reached literals
propagation_within clauses literals given reached complete within p =
    subst (λ (some : List SatLit). IsClausePart some literals) (sym p.begins)
    (propagated_within clauses literals given p.later complete within p.propagated)

pub reached_within : (clauses : List (List SatLit)) (literals given : List SatLit) (l : SatLit) → IsComplete clauses literals
    → IsClausePart given literals → Reaches clauses given l → holds literals l ≡ true
reached_within clauses literals given l complete within r =
    propagation_within clauses literals given r.literals complete within r.propagation l r.reached

pub none_reached_false : (clauses : List (List SatLit)) (literals given : List SatLit) → IsComplete clauses literals
    → IsClausePart given literals → ReachesFalse clauses given → ⊥
none_reached_false clauses literals given complete within r =
    let some = r.falsified in
    let all = propagation_within clauses literals given r.literals complete within r.propagation in
    complete.none_false some.1 (some.0, some.2, some.3)
    (All-from_held (λ m. IsTrue (holds literals (negated m))) some.1
    (λ m h. all (negated m) (All-held (λ k. IsTrue (holds r.literals (negated k))) some.1 m some.4 h)))

-- a literal is among the negations of some where its negation is among these
pub holds-negated : (literals : List SatLit) (m : SatLit) → holds (map negated literals) m ≡ true → holds literals (negated m) ≡ true
holds-negated [] m h = absurd (false≢true h)
holds-negated (k ∷ literals) m h =
    elim (or_cases (same_literal m (negated k)) (holds (map negated literals) m) h) [
      | inl here ↦ or_left _ _ (ap (λ (x : SatLit). same_literal x k) (ap negated (same_literal-true m (negated k) here) ∙ negated-negated k) ∙ same_literal-refl k)
      | inr later ↦ or_right (same_literal (negated m) k) _ (holds-negated literals m later)
    ]

-- a clause is new, one of whose literals is not in a complete list that holds the negations of the others
pub new_by_complete : (clauses : List (List SatLit)) (literals clause : List SatLit) (l : SatLit) → IsComplete clauses literals
    → holds clause l ≡ true → holds literals l ≡ false → ((m : SatLit) → holds clause m ≡ true → same_literal l m ≡ false → holds literals (negated m) ≡ true)
    → IsNew clauses clause
new_by_complete clauses literals clause l complete member absent others = record {
  literal = l;
  member = member;
  unreached = λ r. false≢true (sym absent ∙ reached_within clauses literals (map negated (without_literal l clause)) l complete given r);
  consistent = λ r. none_reached_false clauses literals (map negated (without_literal l clause)) complete given r;
}
  where
    given : (m : SatLit) → holds (map negated (without_literal l clause)) m ≡ true → holds literals m ≡ true
    given m h =
        let there : holds (without_literal l clause) (negated m) ≡ true = holds-negated (without_literal l clause) m h in
        let parts = and_parts (holds clause (negated m)) (not (same_literal l (negated m))) (sym (holds-without l clause (negated m)) ∙ there) in
        ap (holds literals) (sym (negated-negated m)) ∙ others (negated m) parts.0 (not-true _ parts.1)
