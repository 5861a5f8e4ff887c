-- What unit propagation from the decisions of a trail reaches: the whole trail.
use Rattle.std.proofs.Common.{◌≡◌, ◌⊎◌, inl, inr, ◌≤◌, ◌<◌, ◌+◌, ℕ, zero, suc, true, false, List, [], ◌∷◌, ◌++◌, Some, IsTrue, length, take, refl, sym, ap, ◌∙◌, subst, arith, append-nil, append_assoc}
use Rattle.std.specs.List.{Any, Contains, slice_get}
use Rattle.std.proofs.lemmas.Bool.{false≢true, or_left, or_right, false_from_ne_true}
use Rattle.std.proofs.lemmas.List.{take_more, take_all}
use Rattle.std.proofs.lemmas.Option.{slice_get_cases}
use Rattle.sat_base.specs.declared.literal.SatLit.{SatLit}
use Rattle.sat_base.specs.Literal.{negated, same_literal, holds}
use Rattle.sat_base.proofs.LiteralLaws.{same_literal-refl, holds-append, All-held, All-from_held}
use Rattle.sat_log.specs.Propagation.{IsUnitClause, IsFalseIn, IsConsistent, Propagates, ReachesFalse, AreFailingDecisions}
use Rattle.sat_laws.specs.Internal.Complete.{IsClausePart, IsComplete}
use Rattle.sat_laws.specs.Internal.Trail.{IsForced}
use Rattle.sat_laws.proofs.CompleteLaws.{IsWithin-push, reached_within, none_reached_false}

pub held_at : (literals : List SatLit) (i : ℕ) (l : SatLit) → slice_get literals i ≡ Some l → holds literals l ≡ true
held_at [] i l e = absurd (cc)
held_at (m ∷ literals) zero l e = let same : m ≡ l = cc in or_left _ _ (ap (same_literal l) same ∙ same_literal-refl l)
held_at (m ∷ literals) (suc i) l e = or_right (same_literal l m) _ (held_at literals i l e)

-- one literal more that is propagated
pub Propagates-push : (clauses : List (List SatLit)) (earlier later : List SatLit) (l : SatLit) → Propagates clauses earlier later
    → Any (λ clause. IsUnitClause (earlier ++ later) clause l) clauses → Propagates clauses earlier (later ++ l ∷ [])
Propagates-push clauses earlier [] l p some =
    (subst (λ (before : List SatLit). Any (λ clause. IsUnitClause before clause l) clauses) (append-nil earlier) some, tt)
Propagates-push clauses earlier (m ∷ later) l p some = (
  p.0,
  Propagates-push clauses (earlier ++ m ∷ []) later l p.1
      (subst (λ (before : List SatLit). Any (λ clause. IsUnitClause before clause l) clauses) (sym (append_assoc earlier (m ∷ []) later)) some),
)

-- a propagation list from the given literals with these literals in it, and none that is not on the trail
pub record Covers (clauses : List (List SatLit)) (given trail some : List SatLit) : Type 0 where
  pub later : List SatLit
  pub propagated : Propagates clauses given later
  pub covered : IsClausePart some (given ++ later)
  pub inside : IsClausePart (given ++ later) trail

-- a literal that is the only open one stays so among other literals of the trail
unit_among : (trail before among clause : List SatLit) (l : SatLit) → IsConsistent trail → holds trail l ≡ true → IsClausePart before among → IsClausePart among trail
    → IsUnitClause before clause l → IsUnitClause among clause l
unit_among trail before among clause l consistent there covered inside unit = record {
  member = unit.member;
  still_open = false_from_ne_true (holds among (negated l)) (λ t. consistent l there (inside (negated l) t));
  others = λ m h apart. covered (negated m) (unit.others m h apart);
}

more_covered : (clauses : List (List SatLit)) (given trail some : List SatLit) (l : SatLit) → IsConsistent trail → holds trail l ≡ true
    → (holds given l ≡ true) ⊎ Any (λ clause. IsUnitClause some clause l) clauses → Covers clauses given trail some → Covers clauses given trail (some ++ l ∷ [])
more_covered clauses given trail some l consistent there (inl decided) c = record {
  later = c.later;
  propagated = c.propagated;
  covered = IsWithin-push some (given ++ c.later) l c.covered (holds-append given c.later l ∙ or_left _ _ decided);
  inside = c.inside;
}
more_covered clauses given trail some l consistent there (inr unit) c = record {
  later = c.later ++ l ∷ [];
  propagated = Propagates-push clauses given c.later l c.propagated
      (unit.0, unit.1, unit.2, unit.3, unit_among trail some (given ++ c.later) unit.1 l consistent there c.covered c.inside unit.4);
  covered = IsWithin-push some (given ++ (c.later ++ l ∷ [])) l
      (λ m h. subst (λ (list : List SatLit). holds list m ≡ true) (append_assoc given c.later (l ∷ []))
      (holds-append (given ++ c.later) (l ∷ []) m ∙ or_left _ _ (c.covered m h)))
      (subst (λ (list : List SatLit). holds list l ≡ true) (append_assoc given c.later (l ∷ []))
      (holds-append (given ++ c.later) (l ∷ []) l ∙ or_right (holds (given ++ c.later) l) _ (or_left _ _ (same_literal-refl l))));
  inside = subst (λ (list : List SatLit). IsClausePart list trail) (append_assoc given c.later (l ∷ [])) (IsWithin-push (given ++ c.later) trail l c.inside there);
}

covers_prefix : (clauses : List (List SatLit)) (given trail : List SatLit) → IsForced clauses given trail → IsConsistent trail → IsClausePart given trail
    → (n : ℕ) → n ≤ length trail → Covers clauses given trail (take n trail)
covers_prefix clauses given trail forced consistent within zero h = record {
  later = [];
  propagated = tt;
  covered = λ l t. absurd (false≢true t);
  inside = subst (λ (list : List SatLit). IsClausePart list trail) (sym (append-nil given)) within;
}
covers_prefix clauses given trail forced consistent within (suc n) h =
    let before = covers_prefix clauses given trail forced consistent within n (omega arith) in
    elim ((slice_get_cases trail n).1) [
      | inl at ↦
          let here : n < length trail = omega arith in
          let next : n + 1 ≡ suc n = omega arith in
          let longer : take n trail ++ at.0 ∷ [] ≡ take (suc n) trail =
          ap (λ (l : SatLit). take n trail ++ l ∷ []) (sym at.3) ∙ sym (take_more trail n at.0 here) ∙ ap (λ (k : ℕ). take k trail) next in
          subst (Covers clauses given trail) longer
          (more_covered clauses given trail (take n trail) at.0 consistent (held_at trail n at.0 at.2) (forced n at.0 at.2) before)
      | inr past ↦ let short = past.0 in absurd (omega arith)
    ]

-- unit propagation from the given literals reaches each literal of the trail
pub trail_covered : (clauses : List (List SatLit)) (given trail : List SatLit) → IsForced clauses given trail → IsConsistent trail → IsClausePart given trail
    → Covers clauses given trail trail
trail_covered clauses given trail forced consistent within =
    subst (Covers clauses given trail) (take_all (length trail) trail (omega arith))
    (covers_prefix clauses given trail forced consistent within (length trail) (omega arith))

-- so it reaches a clause that is false in the trail
pub trail_reaches_false : (clauses : List (List SatLit)) (given trail clause : List SatLit) → IsForced clauses given trail → IsConsistent trail → IsClausePart given trail
    → Contains clauses clause → IsFalseIn trail clause → ReachesFalse clauses given
trail_reaches_false clauses given trail clause forced consistent within there each =
    let c = trail_covered clauses given trail forced consistent within in record {
      literals = given ++ c.later;
      propagation = record { later = c.later; begins = refl; propagated = c.propagated };
      falsified = (
        there.0,
        clause,
        there.1,
        there.2,
        All-from_held (λ m. IsTrue (holds (given ++ c.later) (negated m))) clause
            (λ m h. c.covered (negated m) (All-held (λ k. IsTrue (holds trail (negated k))) clause m each h)),
      );
    }

-- the decisions of a trail fail where a clause is false in it, and the part of it before the last one was complete
pub failing_decisions : (clauses : List (List SatLit)) (before : List SatLit) (last : SatLit) (prefix trail clause : List SatLit)
    → IsComplete clauses prefix → IsClausePart before prefix → holds prefix last ≡ false → holds prefix (negated last) ≡ false
    → IsForced clauses (before ++ last ∷ []) trail → IsConsistent trail → IsClausePart (before ++ last ∷ []) trail
    → Contains clauses clause → IsFalseIn trail clause → AreFailingDecisions clauses (before ++ last ∷ [])
failing_decisions clauses before last prefix trail clause complete within no_last no_negation forced consistent given there each = record {
  before = before;
  last = last;
  in_order = refl;
  consistent = λ r. none_reached_false clauses prefix before complete within r;
  undecided = λ r. false≢true (sym no_last ∙ reached_within clauses prefix before last complete within r);
  not_denied = λ r. false≢true (sym no_negation ∙ reached_within clauses prefix before (negated last) complete within r);
  fails = trail_reaches_false clauses (before ++ last ∷ []) trail clause forced consistent given there each;
}
