-- The steps of `shorten`.
use Rattle.std.proofs.Common.{◌≡◌, ◌≢◌, inl, inr, ◌<◌, ℕ, ◌&&◌, ◌||◌, not, Bool, true, false, List, [], ◌∷◌, ◌++◌, Some, length, take, sym, ap, ◌∙◌, arith}
use Rattle.std.specs.List.{slice_get}
use Rattle.std.specs.Option.{option_and_then}
use Rattle.std.proofs.lemmas.Bool.{false≢true, cases_Bool, false_from_ne_true}
use Rattle.std.proofs.lemmas.List.{take_all}
use Rattle.std.proofs.lemmas.Option.{same_Some}
use Rattle.sat_base.specs.declared.literal.Var.{Var}
use Rattle.sat_base.specs.declared.literal.SatLit.{SatLit}
use Rattle.sat_base.specs.Literal.{negated, same_var, same_literal, holds, mentions_variable}
use Rattle.sat_base.proofs.LiteralLaws.{same_literal-refl, same_literal-true, negated-negated}
use Rattle.sat_log.specs.declared.chain.Premise.{Premise}
use Rattle.sat_log.specs.declared.chain.Chain.{Chain}
use Rattle.sat_log.specs.Resolution.{without_literal, resolved}
use Rattle.sat_log.proofs.VariableLaws.{mentioned_as}
use Rattle.sat_log.specs.Chains.{premise_clause}
use Rattle.sat_log.specs.Propagation.{IsUnitClause, IsConsistent}
use Rattle.sat_laws.specs.Internal.Complete.{IsComplete}
use Rattle.sat_laws.proofs.CompleteLaws.{consistent_once}
use Rattle.sat_laws.proofs.TrailLaws.{held_at}
use Rattle.sat_laws.proofs.WatchLaws.{held-take}
use Rattle.sat_laws.proofs.AnalysisLaws.{IsOutcome, step_resolves, outcome_mentions, place_below, held_below, learned_new}
use Rattle.sat_propagate.specs.Internal.Trail.{TrailState, literals, IsTrail}
use Rattle.sat_propagate.specs.Internal.Propagator.{texts}
use Rattle.sat_propagate.specs.declared.trail.Step.{Step}
use Rattle.sat_propagate.specs.Internal.ClauseTable.{Watched}
use Rattle.sat_propagate.proofs.PlaceLaws.{literal_at}
use Rattle.sat_core.specs.Internal.Marks.{is_marked, others}
use Rattle.sat_core.specs.Internal.Learned.{IsLearned, IsShortening, Learns}
use Rattle.sat_core.proofs.AnalysisSteps.{chain_result-push, reason_undenied, once_resolved}

-- the literals of what is learned are false
learned_false : (trail : TrailState) (start : ℕ) (clause : List SatLit) → IsLearned trail start clause → (l : SatLit) → holds clause l ≡ true → holds (literals trail.steps) (negated l) ≡ true
learned_false trail start clause learned l h =
    elim (cases_Bool (same_literal (negated learned.point) l)) [
      | inl same ↦ ap (λ (k : SatLit). holds (literals trail.steps) (negated k)) (sym (same_literal-true (negated learned.point) l same))
          ∙ ap (holds (literals trail.steps)) (negated-negated learned.point) ∙ learned.on_trail
      | inr apart ↦ held-take start (literals trail.steps) (negated l) (learned.others l h apart)
    ]

-- a literal is resolved away with its reason
pub shortening_next : (clauses : List Watched) (trail : TrailState) (names : List Premise) (marks after : List Bool) (start place n : ℕ) (chain : Chain) (step : Step) (watched : Watched) (name : Premise)
    → IsShortening clauses trail names marks start chain → IsTrail trail → place < start → slice_get trail.steps place ≡ Some step → is_marked marks step.literal.var ≡ true
    → slice_get clauses n ≡ Some watched → IsUnitClause (take place (literals trail.steps)) watched.clause step.literal → slice_get names n ≡ Some name
    → ((v : Var) → is_marked after v ≡ ((is_marked marks v && not (same_var v step.literal.var)) || mentions_variable (others (Some step.literal) watched.clause) v))
    → IsShortening clauses trail names after start (record { first = chain.first; steps = chain.steps ++ record { var = step.literal.var; premise = name } ∷ [] })
shortening_next clauses trail names marks after start place n chain step watched name a right early at marked there unit named marks_after = record {
  so_far = made.0;
  learned = record {
    last = a.learned.last;
    point = a.learned.point;
    on_trail = a.learned.on_trail;
    late = a.learned.late;
    member = made.2.from_first (negated a.learned.point) a.learned.member point_stays;
    others = λ l h apart. elim (made.2.from_either l h) [
      | inl first ↦ a.learned.others l first.0 apart
      | inr second ↦ early_false l second.0 second.1
    ];
  };
  marked = λ v. marks_after v
      ∙ ap (λ (b : Bool). (b && not (same_var v t.var)) || mentions_variable (without_literal t watched.clause) v) (a.marked v)
      ∙ sym (outcome_mentions t a.so_far watched.clause made.0 made.2 untrue (reason_undenied trail place step watched.clause right at unit) v);
  occurring = λ l h. elim (made.2.from_either l h) [
    | inl first ↦ a.occurring l first.0
    | inr second ↦ record { at = n; watched = watched; there = there; member = second.0 }
  ];
  once = once_resolved (literals trail.steps) t.var a.so_far watched.clause made.0 (length (literals trail.steps)) consistent made.1
      (λ l h. ap (λ (some : List SatLit). holds some (negated l)) (take_all (length (literals trail.steps)) (literals trail.steps) (omega arith)) ∙ made_false l h);
  derived = λ store results are_named.
      chain_result-push store results chain.first chain.steps (record { var = t.var; premise = name }) a.so_far made.0 (a.derived store results are_named)
      (let known = are_named n watched there in
      ap (option_and_then (resolved t.var a.so_far)) (ap (premise_clause store results) (same_Some name known.0 (sym named ∙ known.1)) ∙ known.2) ∙ made.1);
}
  where
    t : SatLit
    t = step.literal

    t_at : slice_get (literals trail.steps) place ≡ Some t
    t_at = literal_at trail.steps place step at

    consistent : IsConsistent (literals trail.steps)
    consistent = consistent_once (literals trail.steps) right.once

    untrue : holds a.so_far t ≡ false
    untrue = false_from_ne_true (holds a.so_far t) (λ h. consistent t (held_at (literals trail.steps) place t t_at) (learned_false trail start a.so_far a.learned t h))

    denied : holds a.so_far (negated t) ≡ true
    denied = elim (mentioned_as a.so_far t (sym (a.marked t.var) ∙ marked)) [
      | inl h ↦ absurd (false≢true (sym untrue ∙ h))
      | inr h ↦ h
    ]

    made : (outcome : List SatLit) × (resolved t.var a.so_far watched.clause ≡ Some outcome) × IsOutcome t a.so_far watched.clause outcome
    made = step_resolves t a.so_far watched.clause denied untrue unit.member

    apart_from : (l : SatLit) → same_literal t l ≡ false → l ≢ t
    apart_from l apart e = false≢true (sym apart ∙ ap (same_literal t) e ∙ same_literal-refl t)

    -- the other literals of the reason were false before t was true
    early_false : (l : SatLit) → holds watched.clause l ≡ true → same_literal t l ≡ false → holds (take start (literals trail.steps)) (negated l) ≡ true
    early_false l h apart =
        let found = place_below (literals trail.steps) place (negated l) (unit.others l h (apart_from l apart)) in
        let before = found.1 in
        held_below (literals trail.steps) start found.0 (negated l) (omega (arith, before, early)) found.2

    made_false : (l : SatLit) → holds made.0 l ≡ true → holds (literals trail.steps) (negated l) ≡ true
    made_false l h = elim (made.2.from_either l h) [
      | inl first ↦ learned_false trail start a.so_far a.learned l first.0
      | inr second ↦ held-take start (literals trail.steps) (negated l) (early_false l second.0 second.1)
    ]

    point_stays : same_literal (negated t) (negated a.learned.point) ≡ false
    point_stays = false_from_ne_true (same_literal (negated t) (negated a.learned.point)) (λ same.
        let is : t ≡ a.learned.point = sym (negated-negated t) ∙ ap negated (same_literal-true (negated t) (negated a.learned.point) same) ∙ negated-negated a.learned.point in
        false≢true (sym a.learned.late ∙ ap (holds (take start (literals trail.steps))) (sym is) ∙ held_below (literals trail.steps) start place t early t_at))

-- what is learned is new
pub shortening_learns : (clauses : List Watched) (trail : TrailState) (names : List Premise) (marks : List Bool) (start : ℕ) (chain : Chain)
    → IsShortening clauses trail names marks start chain → IsTrail trail → IsComplete (texts clauses) (take start (literals trail.steps)) → Learns clauses trail names chain
shortening_learns clauses trail names marks start chain a right complete = record {
  start = start;
  outcome = a.so_far;
  learned = a.learned;
  derived = a.derived;
  occurring = a.occurring;
  once = a.once;
  new = learned_new (texts clauses) (literals trail.steps) a.so_far start a.learned.point complete (consistent_once (literals trail.steps) right.once) a.learned.on_trail a.learned.member a.learned.others;
}
