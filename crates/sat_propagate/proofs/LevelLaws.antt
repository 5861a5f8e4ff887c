-- The trail of a right propagator is complete at each decision, and whole where all of it is processed.
use Rattle.std.proofs.Common.{◌≡◌, ◌≢◌, inl, inr, ◌<◌, ℕ, not, Bool, true, false, List, Some, IsTrue, length, take, refl, sym, ap, ◌∙◌, subst, arith}
use Rattle.std.specs.Prelude.{if◌then◌else◌}
use Rattle.std.specs.List.{Contains, slice_get}
use Rattle.std.proofs.lemmas.Bool.{false≢true, cases_Bool, true_from_ne_false}
use Rattle.std.proofs.lemmas.List.Elements.{All-weaker, All-contains_itself}
use Rattle.sat_base.specs.declared.literal.Var.{Var}
use Rattle.sat_base.specs.Truth.{assigned, clause_value, AllTrue}
use Rattle.sat_base.proofs.LiteralLaws.{All-held, All-from_held}
use Rattle.sat_base.proofs.TruthLaws.{clause_value-held}
use Rattle.sat_log.proofs.VariableLaws.{mentioned_as}
use Rattle.std.specs.Option.{option_map}
use Rattle.std.proofs.lemmas.List.{length-map}
use Rattle.std.proofs.lemmas.Option.{slice_get_cases, slice_get-map, get_or_from_slice_get}
use Rattle.sat_base.specs.declared.literal.SatLit.{SatLit}
use Rattle.sat_base.specs.Literal.{negated, holds, mentions_variable, HoldsNoVariableTwice, IsOver}
use Rattle.sat_log.specs.Propagation.{IsUnitClause, IsFalseIn, IsConsistent}
use Rattle.sat_laws.specs.Internal.Complete.{IsComplete, IsClausePart}
use Rattle.sat_laws.specs.Internal.Watching.{IsKept}
use Rattle.sat_laws.proofs.CompleteLaws.{consistent_once}
use Rattle.sat_laws.proofs.WatchLaws.{kept_at, kept_now, held-take}
use Rattle.sat_propagate.specs.Internal.Trail.{TrailState, literals, IsTrail, IsPhased}
use Rattle.sat_propagate.specs.Internal.WatchLists.{WatchTable}
use Rattle.sat_propagate.specs.Internal.Propagator.{IsPropagator, IsCovered, texts}
use Rattle.sat_propagate.specs.declared.trail.Step.{Step}
use Rattle.sat_propagate.specs.Internal.ClauseTable.{Watched}

-- a text is that of some clause
pub text_at : (clauses : List Watched) (clause : List SatLit) → Contains (texts clauses) clause → (n : ℕ) × (watched : Watched) × (slice_get clauses n ≡ Some watched) × (watched.clause ≡ clause)
text_at clauses clause there =
    elim ((slice_get_cases clauses there.0).1) [
      | inl at ↦
          let text : slice_get (texts clauses) there.0 ≡ Some at.0.clause = slice_get-map (λ (w : Watched). w.clause) clauses there.0 ∙ ap (option_map (λ (w : Watched). w.clause)) at.2 in
          (there.0, at.0, at.2, sym (get_or_from_slice_get (texts clauses) there.0 at.0.clause clause text) ∙ there.2)
      | inr past ↦
          let short = past.0 in
          let inside = there.1 in
          absurd (omega (arith, length-map clauses (λ (w : Watched). w.clause)))
    ]

consistent_part : (some : List SatLit) (s : ℕ) → HoldsNoVariableTwice some → IsConsistent (take s some)
consistent_part some s once l h n = consistent_once some once l (held-take s some l h) (held-take s some (negated l) n)

-- what is false in a clause is false in a part of it
part_false : (trail part clause : List SatLit) → IsClausePart part clause → IsFalseIn trail clause → IsFalseIn trail part
part_false trail part clause among each =
    All-from_held (λ (m : SatLit). IsTrue (holds trail (negated m))) part (λ m h. All-held (λ (k : SatLit). IsTrue (holds trail (negated k))) clause m each (among m h))

-- where a clause has one open literal, a part of it that is not false has the same
part_unit : (trail part clause : List SatLit) (l : SatLit) → IsClausePart part clause → IsUnitClause trail clause l → (IsFalseIn trail part → ⊥) → IsUnitClause trail part l
part_unit trail part clause l among unit not_false = record {
  member = elim (cases_Bool (holds part l)) [
    | inl held ↦ held
    | inr absent ↦ absurd (not_false (All-from_held (λ (m : SatLit). IsTrue (holds trail (negated m))) part (λ m h.
        unit.others m (among m h) (λ e. false≢true (sym absent ∙ ap (holds part) (sym e) ∙ h)))))
  ];
  still_open = unit.still_open;
  others = λ m h apart. unit.others m (among m h) apart;
}

pub complete_at : (trail : TrailState) (processed : ℕ) (clauses : List Watched) (lists : WatchTable) (s : ℕ) → IsPropagator trail processed clauses lists → IsTrail trail → Contains trail.starts s
    → IsComplete (texts clauses) (take s (literals trail.steps))
complete_at trail processed clauses lists s right whole at = record {
  none_false = λ clause there each.
      let w = text_at clauses clause there in
      let cover = right.covered w.0 w.1 w.2 in
      (kept cover).0 (part_false (take s (literals trail.steps)) cover.part.clause w.1.clause cover.among (subst (IsFalseIn (take s (literals trail.steps))) (sym w.3) each));
  units_held = λ clause l there unit.
      let w = text_at clauses clause there in
      let cover = right.covered w.0 w.1 w.2 in
      (kept cover).1 l (part_unit (take s (literals trail.steps)) cover.part.clause w.1.clause l cover.among
      (subst (λ (c : List SatLit). IsUnitClause (take s (literals trail.steps)) c l) (sym w.3) unit) (kept cover).0);
}
  where
    kept : {clause : List SatLit} (cover : IsCovered trail.starts (literals trail.steps) processed clauses clause)
        → (IsFalseIn (take s (literals trail.steps)) cover.part.clause → ⊥) × ((l : SatLit) → IsUnitClause (take s (literals trail.steps)) cover.part.clause l → holds (take s (literals trail.steps)) l ≡ true)
    kept cover = kept_at trail.starts (literals trail.steps) processed cover.part.clause cover.part.first cover.part.second s at (consistent_part (literals trail.steps) s whole.once) cover.kept

pub complete_now : (trail : TrailState) (processed : ℕ) (clauses : List Watched) (lists : WatchTable) → IsPropagator trail processed clauses lists → IsTrail trail → processed ≡ length trail.steps
    → IsComplete (texts clauses) (literals trail.steps)
complete_now trail processed clauses lists right whole all = record {
  none_false = λ clause there each.
      let w = text_at clauses clause there in
      let cover = right.covered w.0 w.1 w.2 in
      (kept cover).0 (part_false (literals trail.steps) cover.part.clause w.1.clause cover.among (subst (IsFalseIn (literals trail.steps)) (sym w.3) each));
  units_held = λ clause l there unit.
      let w = text_at clauses clause there in
      let cover = right.covered w.0 w.1 w.2 in
      (kept cover).1 l (part_unit (literals trail.steps) cover.part.clause w.1.clause l cover.among
      (subst (λ (c : List SatLit). IsUnitClause (literals trail.steps) c l) (sym w.3) unit) (kept cover).0);
}
  where
    kept : {clause : List SatLit} (cover : IsCovered trail.starts (literals trail.steps) processed clauses clause)
        → (IsFalseIn (literals trail.steps) cover.part.clause → ⊥) × ((l : SatLit) → IsUnitClause (literals trail.steps) cover.part.clause l → holds (literals trail.steps) l ≡ true)
    kept cover = kept_now trail.starts (literals trail.steps) cover.part.clause cover.part.first cover.part.second (consistent_once (literals trail.steps) whole.once)
        (subst (λ (q : ℕ). IsKept trail.starts (literals trail.steps) q cover.part.clause cover.part.first cover.part.second) (all ∙ sym (length-map trail.steps (λ (s : Step). s.literal))) cover.kept)

-- the value that a phase gives a literal whose sign it is
value_of : (value sign : Bool) → value ≡ sign → (if sign then value else not value) ≡ true
value_of true true e = refl
value_of true false e = absurd (false≢true (sym e))
value_of false true e = absurd (false≢true e)
value_of false false e = refl

-- where each variable has a value and nothing is left to process, the phases make every clause true
pub values_true : (trail : TrailState) (processed : ℕ) (clauses : List Watched) (lists : WatchTable) → IsPropagator trail processed clauses lists → IsTrail trail → IsPhased trail
    → processed ≡ length trail.steps → ((v : Var) → v.0 < length trail.phases → mentions_variable (literals trail.steps) v ≢ false) → AllTrue (assigned trail.phases) (texts clauses)
values_true trail processed clauses lists right whole phased all full =
    All-weaker (Contains (texts clauses)) (λ clause. IsTrue (clause_value (assigned trail.phases) clause)) holds_each (texts clauses) (All-contains_itself (texts clauses))
  where
    complete : IsComplete (texts clauses) (literals trail.steps)
    complete = complete_now trail processed clauses lists right whole all

    denied : (clause : List SatLit) → Contains (texts clauses) clause → clause_value (assigned trail.phases) clause ≡ false → (l : SatLit) → holds clause l ≡ true → holds (literals trail.steps) (negated l) ≡ true
    denied clause there not_true l h =
        let w = text_at clauses clause there in
        let made : l.var.0 < length trail.phases =
        All-held (λ (m : SatLit). m.var.0 < length trail.phases) clause l (subst (IsOver (length trail.phases)) w.3 (right.over w.0 w.1 w.2)) h in
        elim (mentioned_as (literals trail.steps) l (true_from_ne_false (mentions_variable (literals trail.steps) l.var) (full l.var made))) [
          | inl held ↦ absurd (false≢true (sym not_true ∙ clause_value-held (assigned trail.phases) clause l h (value_of (assigned trail.phases l.var) l.positive (phased l held))))
          | inr negation ↦ negation
        ]

    holds_each : (clause : List SatLit) → Contains (texts clauses) clause → IsTrue (clause_value (assigned trail.phases) clause)
    holds_each clause there =
        elim (cases_Bool (clause_value (assigned trail.phases) clause)) [
          | inl is ↦ is
          | inr not_true ↦ absurd (complete.none_false clause there (All-from_held (λ (l : SatLit). IsTrue (holds (literals trail.steps) (negated l))) clause (denied clause there not_true)))
        ]
