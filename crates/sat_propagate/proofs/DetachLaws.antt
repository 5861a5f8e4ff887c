-- A clause is watched no more of which another one is a part.
use Rattle.std.proofs.Common.{◌≡◌, ◌≢◌, ◌⊎◌, inl, inr, ℕ, true, false, List, Some, IsTrue, length, take, set, sym, ap, ◌∙◌, subst, arith}
use Rattle.std.specs.List.{slice_get}
use Rattle.std.proofs.lemmas.Bool.{false≢true, cases_order}
use Rattle.std.proofs.lemmas.Option.{slice_get_within, same_Some}
use Rattle.sat_base.specs.declared.literal.SatLit.{SatLit}
use Rattle.sat_base.specs.Literal.{holds, IsOver}
use Rattle.sat_log.specs.Propagation.{IsUnitClause}
use Rattle.sat_laws.specs.Internal.Complete.{IsClausePart}
use Rattle.sat_propagate.specs.Internal.Trail.{TrailState, literals}
use Rattle.sat_propagate.specs.Internal.WatchLists.{WatchTable}
use Rattle.sat_propagate.specs.Internal.Propagator.{IsPropagator, IsCovered, Detaches, texts}
use Rattle.sat_propagate.specs.Internal.ClauseTable.{Watched}
use Rattle.sat_propagate.proofs.ListLaws.{map-set_same, get-set_same, get-set_other}

-- a written clause
pub detached_by_write : (before after : List Watched) (n : ℕ) (old new : Watched) → slice_get before n ≡ Some old → after ≡ set before n new
    → new.clause ≡ old.clause → new.first ≡ old.first → new.second ≡ old.first → Detaches before after n
detached_by_write before after n old new was written text first second = record {
  old = old;
  new = new;
  was = was;
  is = ap (λ (list : List Watched). slice_get list n) written ∙ get-set_same before n new (slice_get_within before n old was);
  text = text;
  first_same = first;
  second_first = second;
  others = λ k apart. ap (λ (list : List Watched). slice_get list k) written ∙ get-set_other before n k new apart;
  texts_same = ap texts written ∙ map-set_same (λ (w : Watched). w.clause) before n old new was text;
}

-- a clause after the change is the changed one, or one of those before
detached_cases : (before after : List Watched) (n : ℕ) (changed : Detaches before after n) (k : ℕ) (watched : Watched) → slice_get after k ≡ Some watched
    → ((k ≡ n) × (changed.new ≡ watched)) ⊎ ((k ≢ n) × (slice_get before k ≡ Some watched))
detached_cases before after n changed k watched at =
    elim (cases_order k n) [
      | inl same ↦ inl (same, same_Some _ _ (sym changed.is ∙ ap (slice_get after) (sym same) ∙ at))
      | inr apart ↦ elim apart [
        | inl less ↦ let ne : k ≢ n = omega arith in inr (ne, sym (changed.others k ne) ∙ at)
        | inr more ↦ let ne : k ≢ n = omega arith in inr (ne, sym (changed.others k ne) ∙ at)
      ]
    ]

-- a propagator stays right where the detached clause has a literal that its part doesn't have
pub right_detached : (trail : TrailState) (processed : ℕ) (before after : List Watched) (lists : WatchTable) (n m : ℕ) (part : Watched) (l : SatLit) (changed : Detaches before after n)
    → slice_get before m ≡ Some part → IsClausePart part.clause changed.old.clause → holds changed.old.clause l ≡ true → holds part.clause l ≡ false
    → IsPropagator trail processed before lists → IsPropagator trail processed after lists
right_detached trail processed before after lists n m part l changed part_there part_among member absent right = record {
  reasoned = λ i step at.
      let r = right.reasoned i step at in
      record {
        decided = r.decided;
        forced = λ k e. reason_after k (take i (literals trail.steps)) step.literal (r.forced k e);
      };
  started = right.started;
  processed_within = right.processed_within;
  covered = λ k watched at. elim (detached_cases before after n changed k watched at) [
    | inl same ↦ subst Covered (sym changed.text ∙ ap (λ (w : Watched). w.clause) same.1) (cover_after changed.old.clause (right.covered n changed.old changed.was))
    | inr old ↦ cover_after watched.clause (right.covered k watched old.1)
  ];
  members = λ k watched at. elim (detached_cases before after n changed k watched at) [
    | inl same ↦ subst Members same.1 (first_in changed.new.first changed.first_same, first_in changed.new.second changed.second_first)
    | inr old ↦ right.members k watched old.1
  ];
  listed = λ k watched m at apart watches. elim (detached_cases before after n changed k watched at) [
    | inl same ↦ absurd (apart (ap (λ (w : Watched). w.first) (sym same.1) ∙ changed.first_same ∙ sym changed.second_first ∙ ap (λ (w : Watched). w.second) same.1))
    | inr old ↦ right.listed k watched m old.1 apart watches
  ];
  over = λ k watched at. elim (detached_cases before after n changed k watched at) [
    | inl same ↦ subst (λ (w : Watched). IsOver (length trail.phases) w.clause) same.1 (subst (IsOver (length trail.phases)) (sym changed.text) (right.over n changed.old changed.was))
    | inr old ↦ right.over k watched old.1
  ];
  lists_made = right.lists_made;
}
  where
    Covered : List SatLit → Type 0
    Covered clause = IsCovered trail.starts (literals trail.steps) processed after clause

    Members : Watched → Type 0
    Members w = IsTrue (holds w.clause w.first) × IsTrue (holds w.clause w.second)

    first_in : (k : SatLit) → k ≡ changed.old.first → holds changed.new.clause k ≡ true
    first_in k is = ap (λ (c : List SatLit). holds c k) changed.text ∙ ap (holds changed.old.clause) is ∙ (right.members n changed.old changed.was).0

    -- what covers the part is another clause than the detached one
    other : IsCovered trail.starts (literals trail.steps) processed before part.clause
    other = right.covered m part part_there

    other_apart : other.at ≢ n
    other_apart e =
        let is_old : other.part ≡ changed.old = same_Some _ _ (sym other.there ∙ ap (slice_get before) e ∙ changed.was) in
        false≢true (sym absent ∙ other.among l (ap (λ (w : Watched). holds w.clause l) is_old ∙ member))

    cover_after : (clause : List SatLit) → IsCovered trail.starts (literals trail.steps) processed before clause → IsCovered trail.starts (literals trail.steps) processed after clause
    cover_after clause cover =
        elim (cases_order cover.at n) [
          | inl same ↦
              let is_old : cover.part ≡ changed.old = same_Some _ _ (sym cover.there ∙ ap (slice_get before) same ∙ changed.was) in
              let among : IsClausePart changed.old.clause clause = subst (λ (w : Watched). IsClausePart w.clause clause) is_old cover.among in
              record {
                at = other.at;
                part = other.part;
                there = changed.others other.at other_apart ∙ other.there;
                among = λ k h. among k (part_among k (other.among k h));
                kept = other.kept;
              }
          | inr apart ↦ elim apart [
            | inl less ↦ let ne : cover.at ≢ n = omega arith in record { at = cover.at; part = cover.part; there = changed.others cover.at ne ∙ cover.there; among = cover.among; kept = cover.kept }
            | inr more ↦ let ne : cover.at ≢ n = omega arith in record { at = cover.at; part = cover.part; there = changed.others cover.at ne ∙ cover.there; among = cover.among; kept = cover.kept }
          ]
        ]

    reason_after : (k : ℕ) (earlier : List SatLit) (a : SatLit) → (watched : Watched) × (slice_get before k ≡ Some watched) × IsUnitClause earlier watched.clause a
        → (watched : Watched) × (slice_get after k ≡ Some watched) × IsUnitClause earlier watched.clause a
    reason_after k earlier a u =
        elim (cases_order k n) [
          | inl same ↦ (
            changed.new,
            ap (slice_get after) same ∙ changed.is,
            subst (λ (c : List SatLit). IsUnitClause earlier c a)
                (ap (λ (w : Watched). w.clause) (same_Some _ _ (sym u.1 ∙ ap (slice_get before) same ∙ changed.was)) ∙ sym changed.text) u.2,
          )
          | inr apart ↦ elim apart [
            | inl less ↦ let ne : k ≢ n = omega arith in (u.0, changed.others k ne ∙ u.1, u.2)
            | inr more ↦ let ne : k ≢ n = omega arith in (u.0, changed.others k ne ∙ u.1, u.2)
          ]
        ]
