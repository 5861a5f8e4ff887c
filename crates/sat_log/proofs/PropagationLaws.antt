-- Facts about unit propagation.
use Rattle.std.proofs.Common.{◌≡◌, IsTrue, map, ◌≢◌, inl, inr, ◌||◌, Bool, true, false, List, [], ◌∷◌, ◌++◌, refl, sym, ap, ◌∙◌, subst, append_assoc, append-nil}
use Rattle.std.specs.List.{Any, Contains}
use Rattle.std.proofs.lemmas.Bool.{false≢true, or_cases, or_left, or_right, and_from, false_from_ne_true, not_from_false, cases_Bool, not-true}
use Rattle.sat_base.specs.declared.literal.Var.{Var}
use Rattle.sat_base.specs.declared.literal.SatLit.{SatLit}
use Rattle.sat_base.specs.Literal.{negated, same_literal, holds, IsAlike}
use Rattle.sat_base.specs.Truth.{literal_value, clause_value, AllTrue, only, Unsat, Implies}
use Rattle.sat_base.proofs.LiteralLaws.{same_literal-true, same_literal-refl, holds-append, All-held, All-from_held}
use Rattle.sat_base.proofs.TruthLaws.{literal_value-negated, clause_value-false, true_or_false}
use Rattle.sat_log.specs.Resolution.{without_literal}
use Rattle.sat_log.proofs.ResolutionLaws.{holds-without}
use Rattle.sat_log.specs.Propagation.{IsNew, IsUnitClause, IsFalseIn, Propagates, IsPropagation, Reaches, ReachesFalse, Includes}

-- what holds of one of some clauses holds of one of more clauses
Any-included : (P : List SatLit → Type 0) (clauses others : List (List SatLit)) → Includes clauses others → Any P clauses → Any P others
Any-included P clauses others within some =
    let there = within some.1 (some.0, some.2, some.3) in
    (there.0, some.1, there.1, there.2, some.4)

Propagates-included : (clauses others : List (List SatLit)) → Includes clauses others → (earlier later : List SatLit) → Propagates clauses earlier later → Propagates others earlier later
Propagates-included clauses others within earlier [] h = tt
Propagates-included clauses others within earlier (l ∷ later) h =
    (Any-included (λ clause. IsUnitClause earlier clause l) clauses others within h.0, Propagates-included clauses others within (earlier ++ l ∷ []) later h.1)

-- propagation lists only grow with the clauses
pub IsPropagation-included : (clauses others : List (List SatLit)) → Includes clauses others → (given literals : List SatLit) → IsPropagation clauses given literals → IsPropagation others given literals
IsPropagation-included clauses others within given literals h = record {
  later = h.later;
  begins = h.begins;
  propagated = Propagates-included clauses others within given h.later h.propagated;
}

pub Reaches-included : (clauses others : List (List SatLit)) → Includes clauses others → (given : List SatLit) (l : SatLit) → Reaches clauses given l → Reaches others given l
Reaches-included clauses others within given l h = record {
  literals = h.literals;
  propagation = IsPropagation-included clauses others within given h.literals h.propagation;
  reached = h.reached;
}

pub ReachesFalse-included : (clauses others : List (List SatLit)) → Includes clauses others → (given : List SatLit) → ReachesFalse clauses given → ReachesFalse others given
ReachesFalse-included clauses others within given h = record {
  literals = h.literals;
  propagation = IsPropagation-included clauses others within given h.literals h.propagation;
  falsified = Any-included (IsFalseIn h.literals) clauses others within h.falsified;
}

-- each literal of a list is true
abbrev AreTrue : (Var → Bool) → List SatLit → Type 0
AreTrue value literals = (l : SatLit) → holds literals l ≡ true → literal_value value l ≡ true

AreTrue-push : (value : Var → Bool) (literals : List SatLit) (l : SatLit) → AreTrue value literals → literal_value value l ≡ true → AreTrue value (literals ++ l ∷ [])
AreTrue-push value literals l all t m h =
    elim (or_cases (holds literals m) (same_literal m l || false) (sym (holds-append literals (l ∷ []) m) ∙ h)) [
      | inl earlier ↦ all m earlier
      | inr last ↦ elim (or_cases (same_literal m l) false last) [
        | inl here ↦ ap (literal_value value) (same_literal-true m l here) ∙ t
        | inr never ↦ absurd (false≢true never)
      ]
    ]

-- a literal whose negation is true is false
false_by_negation : (value : Var → Bool) (l : SatLit) → literal_value value (negated l) ≡ true → literal_value value l ≡ false
false_by_negation value l t = not-true (literal_value value l) (sym (literal_value-negated value l) ∙ t)

-- a literal is true that is the only one of a true clause whose negation is not among the true ones
unit_true : (value : Var → Bool) (earlier clause : List SatLit) (l : SatLit) → clause_value value clause ≡ true → AreTrue value earlier → IsUnitClause earlier clause l → literal_value value l ≡ true
unit_true value earlier clause l clause_true all unit =
    elim (cases_Bool (literal_value value l)) [
      | inl t ↦ t
      | inr f ↦ absurd (false≢true (sym (clause_value-false value clause (λ m h.
          elim (cases_Bool (same_literal m l)) [
            | inl same ↦ ap (literal_value value) (same_literal-true m l same) ∙ f
            | inr other ↦ false_by_negation value m (all (negated m) (unit.others m h (λ e. false≢true (sym other ∙ subst (λ (k : SatLit). same_literal m k ≡ true) e (same_literal-refl m)))))
          ])) ∙ clause_true))
    ]

-- what is propagated from true literals is true wherever the clauses are
propagated_true : (value : Var → Bool) (clauses : List (List SatLit)) → AllTrue value clauses → (earlier later : List SatLit) → AreTrue value earlier → Propagates clauses earlier later → AreTrue value (earlier ++ later)
propagated_true value clauses all earlier [] h p = subst (AreTrue value) (sym (append-nil earlier)) h
propagated_true value clauses all earlier (l ∷ later) h p =
    let unit = p.0 in
    let clause_true : clause_value value unit.1 ≡ true = subst (λ (c : List SatLit). clause_value value c ≡ true) unit.3 (all unit.0 unit.1 unit.2) in
    let more = AreTrue-push value earlier l h (unit_true value earlier unit.1 l clause_true h unit.4) in
    subst (AreTrue value) (append_assoc earlier (l ∷ []) later) (propagated_true value clauses all (earlier ++ l ∷ []) later more p.1)

pub propagation_true : (value : Var → Bool) (clauses : List (List SatLit)) (given literals : List SatLit) → AllTrue value clauses → AreTrue value given → IsPropagation clauses given literals → AreTrue value literals
propagation_true value clauses given literals all h p =
    subst (AreTrue value) (sym p.begins) (propagated_true value clauses all given p.later h p.propagated)

-- no values make the clauses and the given literals true from which a false clause is reached
pub no_values_reach_false : (value : Var → Bool) (clauses : List (List SatLit)) (given : List SatLit) → AllTrue value clauses → AreTrue value given → ReachesFalse clauses given → ⊥
no_values_reach_false value clauses given all h r =
    let some = r.falsified in
    let each = propagation_true value clauses given r.literals all h r.propagation in
    let clause_true : clause_value value some.1 ≡ true = subst (λ (c : List SatLit). clause_value value c ≡ true) some.3 (all some.0 some.1 some.2) in
    let clause_false : clause_value value some.1 ≡ false = clause_value-false value some.1 (λ l held. false_by_negation value l (each (negated l) (All-held (λ m. IsTrue (holds r.literals (negated m))) some.1 l some.4 held))) in
    false≢true (sym clause_false ∙ clause_true)

pub unsat_by_propagation : (clauses : List (List SatLit)) → ReachesFalse clauses [] → Unsat clauses
unsat_by_propagation clauses r atoms =
    elim (true_or_false (only atoms) clauses) [
      | inl all ↦ absurd (no_values_reach_false (only atoms) clauses [] all (λ l h. absurd (false≢true h)) r)
      | inr some ↦ some
    ]

-- what is reached from no literals is implied
pub implied_by_propagation : (clauses : List (List SatLit)) (l : SatLit) → Reaches clauses [] l → Implies clauses (l ∷ [])
implied_by_propagation clauses l r atoms all =
    or_left _ _ (propagation_true (only atoms) clauses [] r.literals all (λ m h. absurd (false≢true h)) r.propagation l r.reached)

-- the negation of a literal is among the negations of some literals where it is among these
holds-map_negated : (literals : List SatLit) (l : SatLit) → holds literals l ≡ true → holds (map negated literals) (negated l) ≡ true
holds-map_negated [] l h = h
holds-map_negated (m ∷ literals) l h =
    elim (or_cases (same_literal l m) (holds literals l) h) [
      | inl e ↦ or_left _ _ (ap (same_literal (negated l)) (sym (ap negated (same_literal-true l m e))) ∙ same_literal-refl (negated l))
      | inr later ↦ or_right (same_literal (negated l) (negated m)) _ (holds-map_negated literals l later)
    ]

-- the negation of another literal of a clause is among those of its literals without one
other_negated : (clause : List SatLit) (l m : SatLit) → holds clause m ≡ true → m ≢ l → holds (map negated (without_literal l clause)) (negated m) ≡ true
other_negated clause l m h other =
    holds-map_negated (without_literal l clause) m
    (holds-without l clause m ∙ and_from _ _ h (not_from_false _ (false_from_ne_true (same_literal l m) (λ e. other (sym (same_literal-true l m e))))))

-- a new clause is like none of the clauses
pub IsNew-apart : (clauses : List (List SatLit)) (clause other : List SatLit) → IsNew clauses clause → Contains clauses other → IsAlike other clause → ⊥
IsNew-apart clauses clause other new there alike =
    elim (cases_Bool (holds given (negated l))) [
      | inl denied ↦ new.consistent (record {
        literals = given;
        propagation = record { later = []; begins = sym (append-nil given); propagated = tt };
        falsified = (
          there.0,
          other,
          there.1,
          there.2,
          All-from_held (λ m. IsTrue (holds given (negated m))) other (λ m h.
              elim (cases_Bool (same_literal m l)) [
                | inl same ↦ ap (λ (k : SatLit). holds given (negated k)) (same_literal-true m l same) ∙ denied
                | inr apart ↦ rest m h apart
              ]),
        );
      })
      | inr undenied ↦ new.unreached (record {
        literals = given ++ l ∷ [];
        propagation = record {
          later = l ∷ [];
          begins = refl;
          propagated = (
            (
              there.0,
              other,
              there.1,
              there.2,
              record {
                member = alike l ∙ new.member;
                still_open = undenied;
                others = λ m h apart. other_negated clause l m (sym (alike m) ∙ h) apart;
              },
            ),
            tt,
          );
        };
        reached = holds-append given (l ∷ []) l ∙ or_right (holds given l) _ (or_left _ _ (same_literal-refl l));
      })
    ]
  where
    l : SatLit
    l = new.literal

    given : List SatLit
    given = map negated (without_literal new.literal clause)

    rest : (m : SatLit) → holds other m ≡ true → same_literal m new.literal ≡ false → holds (map negated (without_literal new.literal clause)) (negated m) ≡ true
    rest m h apart = other_negated clause new.literal m (sym (alike m) ∙ h) (λ e. false≢true (sym apart ∙ subst (λ (k : SatLit). same_literal m k ≡ true) e (same_literal-refl m)))
