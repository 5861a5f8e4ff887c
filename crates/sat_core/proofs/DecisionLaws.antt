-- What a false clause shows: without a decision that propagation reaches it from nothing, with some that they fail.
use Rattle.std.proofs.Common.{◌≡◌, ◌⊎◌, inl, inr, ◌<◌, ◌+◌, ◌-◌, ℕ, zero, suc, Bool, true, false, List, [], ◌∷◌, ◌++◌, Option, Some, None, IsTrue, map, length, take, get_or, refl, sym, ap, ◌∙◌, subst, arith}
use Rattle.std.specs.List.{Any, Contains, slice_get}
use Rattle.std.proofs.lemmas.Bool.{false≢true, or_cases, or_left, or_right, false_from_ne_true}
use Rattle.std.proofs.lemmas.List.{length-map, length-take-le, take_more, take_all}
use Rattle.std.proofs.lemmas.List.Elements.{Contains-push_cases, Contains-append_left, Contains-append_right, All-contains}
use Rattle.std.proofs.lemmas.Option.{slice_get_cases, slice_get-get_or, slice_get_within, get_or_from_slice_get, same_Some}
use Rattle.sat_base.specs.declared.literal.SatLit.{SatLit}
use Rattle.sat_base.specs.Literal.{negated, same_literal, holds}
use Rattle.sat_base.proofs.LiteralLaws.{same_literal-refl, same_literal-true, holds-append}
use Rattle.sat_log.specs.declared.chain.Premise.{Premise}
use Rattle.sat_log.specs.declared.chain.Premise.TheVariants.{Clause, Result}
use Rattle.sat_log.specs.Chains.{premise_clause}
use Rattle.sat_log.specs.Propagation.{IsUnitClause, IsFalseIn, Includes, ReachesFalse, AreFailingDecisions}
use Rattle.sat_laws.specs.Internal.Complete.{IsComplete, IsClausePart}
use Rattle.sat_laws.specs.Internal.Trail.{IsForced}
use Rattle.sat_laws.proofs.CompleteLaws.{consistent_once}
use Rattle.sat_laws.proofs.WatchLaws.{held-take}
use Rattle.sat_laws.proofs.TrailLaws.{held_at, trail_reaches_false, failing_decisions}
use Rattle.sat_laws.proofs.AnalysisLaws.{place_below, held_below}
use Rattle.sat_propagate.specs.Internal.Trail.{TrailState, literals, IsTrail}
use Rattle.sat_propagate.specs.Internal.Propagator.{IsConflict, texts}
use Rattle.sat_propagate.specs.declared.trail.Step.{Step}
use Rattle.sat_propagate.specs.declared.propagator.Propagator.{Propagator}
use Rattle.sat_propagate.proofs.ListLaws.{get-take, no_literal}
use Rattle.sat_propagate.proofs.PlaceLaws.{literal_at, once_place}
use Rattle.sat_propagate.proofs.LevelLaws.{complete_at}
use Rattle.sat_propagate.proofs.TableLaws.{get_or-any}
use Rattle.sat_core.specs.Internal.Learner.{IsNamedPropagator}
use Rattle.sat_core.proofs.AnalysisSteps.{contains_at, no_start}

-- a premise names a clause or a result
pub premise_among : (clauses some : List (List SatLit)) (premise : Premise) (clause : List SatLit) → premise_clause clauses some premise ≡ Some clause → Contains (clauses ++ some) clause
premise_among clauses some (Clause n) clause e = Contains-append_left clauses some clause (contains_at clauses n clause e)
premise_among clauses some (Result n) clause e = Contains-append_right clauses some clause (contains_at some n clause e)

-- the step of a literal on the trail
step_of : (steps : List Step) (i : ℕ) (l : SatLit) → slice_get (literals steps) i ≡ Some l → (step : Step) × (slice_get steps i ≡ Some step) × (step.literal ≡ l)
step_of steps i l at =
    elim ((slice_get_cases steps i).1) [
      | inl found ↦ (found.0, found.2, same_Some _ _ (sym (literal_at steps i found.0 found.2) ∙ at))
      | inr past ↦
          let long = past.0 in
          let inside = slice_get_within (literals steps) i l at in
          absurd (omega (arith, long, inside, length-map steps (λ (s : Step). s.literal)))
    ]

-- each literal of the trail is a decision's, which are given, or forced by a clause or a result
forced : (clauses some : List (List SatLit)) (propagator : Propagator) (names : List Premise) (marks : List Bool) (given : List SatLit) → IsNamedPropagator clauses some propagator names marks
    → ((i : ℕ) (step : Step) → slice_get propagator.trail.steps i ≡ Some step → Contains propagator.trail.starts i → holds given step.literal ≡ true)
    → IsForced (clauses ++ some) given (literals propagator.trail.steps)
forced clauses some propagator names marks given ready decided i l at =
    let found = step_of propagator.trail.steps i l at in
    let step = found.0 in
    go step found.1 found.2 step.reason refl
  where
    go : (step : Step) → slice_get propagator.trail.steps i ≡ Some step → step.literal ≡ l → (reason : Option ℕ) → step.reason ≡ reason
        → IsTrue (holds given l) ⊎ Any (λ clause. IsUnitClause (take i (literals propagator.trail.steps)) clause l) (clauses ++ some)
    go step there is None e =
        inl (subst (λ (k : SatLit). holds given k ≡ true) is (decided i step there ((ready.right.reasoned i step there).decided e)))
    go step there is (Some n) e =
        let reason = (ready.right.reasoned i step there).forced n e in
        let name = ready.named n reason.0 reason.1 in
        let among = premise_among clauses some name.0 reason.0.clause name.2 in
        inr (among.0, reason.0.clause, among.1, among.2, subst (λ (k : SatLit). IsUnitClause (take i (literals propagator.trail.steps)) reason.0.clause k) is reason.2)

-- without a decision propagation reaches a clause that is false
pub root_reaches_false : (clauses some : List (List SatLit)) (propagator : Propagator) (names : List Premise) (marks : List Bool) (clause : List SatLit) → IsNamedPropagator clauses some propagator names marks
    → IsTrail propagator.trail → propagator.trail.starts ≡ [] → Contains (clauses ++ some) clause → IsFalseIn (literals propagator.trail.steps) clause → ReachesFalse (clauses ++ some) []
root_reaches_false clauses some propagator names marks clause ready whole root there each =
    trail_reaches_false (clauses ++ some) [] (literals propagator.trail.steps) clause
    (forced clauses some propagator names marks [] ready (λ i step at start. absurd (no_start propagator.trail.starts i root start)))
    (consistent_once (literals propagator.trail.steps) whole.once) (λ l h. absurd (false≢true h)) there each

-- the literals that were decided at some places
abbrev decided_at : List SatLit → List ℕ → List SatLit
decided_at trail places = map (λ (s : ℕ). get_or trail s no_literal) places

decided_held : (trail : List SatLit) (places : List ℕ) (s k : ℕ) → k < length places → get_or places k s ≡ s → holds (decided_at trail places) (get_or trail s no_literal) ≡ true
decided_held trail [] s k h e = absurd (omega arith)
decided_held trail (p ∷ places) s zero h e = or_left _ _ (ap (λ (q : ℕ). same_literal (get_or trail s no_literal) (get_or trail q no_literal)) e ∙ same_literal-refl (get_or trail s no_literal))
decided_held trail (p ∷ places) s (suc k) h e =
    or_right (same_literal (get_or trail s no_literal) (get_or trail p no_literal)) _ (decided_held trail places s k (omega arith) e)

decided_from : (trail : List SatLit) (places : List ℕ) (l : SatLit) → holds (decided_at trail places) l ≡ true → (s : ℕ) × Contains places s × (l ≡ get_or trail s no_literal)
decided_from trail [] l h = absurd (false≢true h)
decided_from trail (p ∷ places) l h =
    elim (or_cases (same_literal l (get_or trail p no_literal)) (holds (decided_at trail places) l) h) [
      | inl here ↦ (p, (0, omega arith, refl), same_literal-true l (get_or trail p no_literal) here)
      | inr later ↦
          let found = decided_from trail places l later in
          let inside = found.1.1 in
          (found.0, (suc found.1.0, omega (arith, inside), found.1.2), found.2)
    ]

-- decisions before the last one stand before its place
start_below : (trail : TrailState) (m s : ℕ) → IsTrail trail → m < length trail.starts → Contains (take m trail.starts) s → (s < get_or trail.starts m 0) × Contains trail.starts s
start_below trail m s whole inside there =
    let short : length (take m trail.starts) ≡ m = length-take-le m trail.starts (omega (arith, inside)) in
    let before : there.0 < m = let at = there.1 in omega (arith, at, short) in
    let made : there.0 < length trail.starts = omega (arith, before, inside) in
    let at : slice_get trail.starts there.0 ≡ Some s = sym (get-take m trail.starts there.0 before) ∙ slice_get-get_or (take m trail.starts) there.0 s there.1 ∙ ap Some there.2 in
    let is : get_or trail.starts there.0 0 ≡ s = get_or_from_slice_get trail.starts there.0 s 0 at in
    (subst (λ (k : ℕ). k < get_or trail.starts m 0) is (whole.ascending there.0 m before inside), contains_at trail.starts there.0 s at)

-- the literal at a decision's place
start_at : (trail : TrailState) (s : ℕ) → IsTrail trail → Contains trail.starts s → slice_get (literals trail.steps) s ≡ Some (get_or (literals trail.steps) s no_literal)
start_at trail s whole there =
    let within : s < length trail.steps = All-contains (λ (k : ℕ). k < length trail.steps) trail.starts s whole.within there in
    slice_get-get_or (literals trail.steps) s no_literal (omega (arith, within, length-map trail.steps (λ (k : Step). k.literal)))

-- complete for some clauses, complete for fewer
complete_fewer : (clauses others : List (List SatLit)) (some : List SatLit) → Includes clauses others → IsComplete others some → IsComplete clauses some
complete_fewer clauses others some within complete = record {
  none_false = λ clause there. complete.none_false clause (within clause there);
  units_held = λ clause l there unit. complete.units_held clause l (within clause there) unit;
}

-- the decisions of the trail, all but the last one and the last one
pub decisions_fail : (clauses some : List (List SatLit)) (propagator : Propagator) (names : List Premise) (marks : List Bool) (n : ℕ) → IsNamedPropagator clauses some propagator names marks → IsTrail propagator.trail
    → Includes (clauses ++ some) (texts propagator.clauses.items) → IsConflict propagator.trail propagator.clauses.items n → 0 < length propagator.trail.starts
    → (decisions : List SatLit) × AreFailingDecisions (clauses ++ some) decisions
decisions_fail clauses some propagator names marks n ready whole included conflict decided = (
  before ++ last ∷ [],
  failing_decisions (clauses ++ some) before last prefix trail conflict.watched.clause complete earlier_within no_last no_negation
      (forced clauses some propagator names marks (before ++ last ∷ []) ready given) (consistent_once trail whole.once) all_within among conflict.falsified,
)
  where
    trail : List SatLit
    trail = literals propagator.trail.steps

    starts : List ℕ
    starts = propagator.trail.starts

    m : ℕ
    m = length starts - 1

    m_inside : m < length starts
    m_inside = omega (arith, decided)

    s : ℕ
    s = get_or starts m 0

    s_start : Contains starts s
    s_start = (m, m_inside, get_or-any starts m s 0 m_inside)

    before : List SatLit
    before = decided_at trail (take m starts)

    last : SatLit
    last = get_or trail s no_literal

    prefix : List SatLit
    prefix = take s trail

    complete : IsComplete (clauses ++ some) prefix
    complete = complete_fewer (clauses ++ some) (texts propagator.clauses.items) prefix included
        (complete_at propagator.trail propagator.processed propagator.clauses.items propagator.lists s ready.right whole s_start)

    earlier_within : IsClausePart before prefix
    earlier_within l h =
        let found = decided_from trail (take m starts) l h in
        let below = start_below propagator.trail m found.0 whole m_inside found.1 in
        held_below trail s found.0 l below.0 (start_at propagator.trail found.0 whole below.1 ∙ ap Some (sym found.2))

    last_at : slice_get trail s ≡ Some last
    last_at = start_at propagator.trail s whole s_start

    no_last : holds prefix last ≡ false
    no_last = false_from_ne_true (holds prefix last) (λ h.
        let found = place_below trail s last h in
        let same : found.0 ≡ s = once_place trail found.0 s last last whole.once found.2 last_at refl in
        let less = found.1 in
        omega (arith, same, less))

    no_negation : holds prefix (negated last) ≡ false
    no_negation = false_from_ne_true (holds prefix (negated last)) (λ h.
        consistent_once trail whole.once last (held_at trail s last last_at) (held-take s trail (negated last) h))

    starts_are : take m starts ++ s ∷ [] ≡ starts
    starts_are =
        let next : m + 1 ≡ length starts = omega (arith, m_inside, decided) in
        sym (take_more starts m 0 m_inside) ∙ ap (λ (k : ℕ). take k starts) next ∙ take_all (length starts) starts (omega arith)

    given : (i : ℕ) (step : Step) → slice_get propagator.trail.steps i ≡ Some step → Contains starts i → holds (before ++ last ∷ []) step.literal ≡ true
    given i step at start =
        let is : get_or trail i no_literal ≡ step.literal = get_or_from_slice_get trail i step.literal no_literal (literal_at propagator.trail.steps i step at) in
        let start_in : Contains (take m starts ++ s ∷ []) i = subst (λ (list : List ℕ). Contains list i) (sym starts_are) start in
        subst (λ (l : SatLit). holds (before ++ last ∷ []) l ≡ true) is (elim (Contains-push_cases (take m starts) s i start_in) [
          | inl early ↦ holds-append before (last ∷ []) (get_or trail i no_literal) ∙ or_left _ _ (decided_held trail (take m starts) i early.0 early.1 early.2)
          | inr late ↦ holds-append before (last ∷ []) (get_or trail i no_literal) ∙ or_right (holds before (get_or trail i no_literal)) _
              (or_left _ _ (ap (λ (k : ℕ). same_literal (get_or trail i no_literal) (get_or trail k no_literal)) late ∙ same_literal-refl (get_or trail i no_literal)))
        ])

    all_within : IsClausePart (before ++ last ∷ []) trail
    all_within l h = elim (or_cases (holds before l) (holds (last ∷ []) l) (sym (holds-append before (last ∷ []) l) ∙ h)) [
      | inl early ↦ held-take s trail l (earlier_within l early)
      | inr late ↦ elim (or_cases (same_literal l last) false late) [
        | inl same ↦ subst (λ (k : SatLit). holds trail k ≡ true) (sym (same_literal-true l last same)) (held_at trail s last last_at)
        | inr never ↦ absurd (false≢true never)
      ]
    ]

    among : Contains (clauses ++ some) conflict.watched.clause
    among = let name = ready.named n conflict.watched conflict.there in premise_among clauses some name.0 conflict.watched.clause name.2
