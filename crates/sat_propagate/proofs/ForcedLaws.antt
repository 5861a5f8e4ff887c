-- A clause is inserted all of whose literals but one are false, and that one becomes true.
use Rattle.std.proofs.Common.{◌≡◌, ◌≢◌, inl, inr, ◌<◌, ◌≤◌, ℕ, true, false, List, [], ◌∷◌, ◌++◌, Some, length, take, get_or, refl, sym, ap, ◌∙◌, subst, arith, length-append}
use Rattle.std.specs.List.{Contains, slice_get}
use Rattle.std.proofs.lemmas.Bool.{false≢true, or_left, or_right, cases_order, false_from_ne_true}
use Rattle.std.proofs.lemmas.List.{take-take, take_all, length-map, length-take-le}
use Rattle.sat_base.specs.declared.literal.SatLit.{SatLit}
use Rattle.sat_base.specs.Literal.{negated, holds, mentions_variable, IsOver}
use Rattle.sat_base.proofs.LiteralLaws.{holds-append, same_literal-refl, mentions-held}
use Rattle.sat_log.specs.Propagation.{IsUnitClause}
use Rattle.sat_log.proofs.ChainLaws.{slice_get-append, slice_get-seam}
use Rattle.sat_laws.specs.Internal.Watching.{IsKept}
use Rattle.sat_laws.proofs.CompleteLaws.{satisfied_by}
use Rattle.sat_laws.specs.Internal.Complete.{satisfies}
use Rattle.sat_laws.proofs.WatchLaws.{held-take, kept_push}
use Rattle.sat_propagate.specs.Internal.Trail.{TrailState, literals, IsTrail}
use Rattle.sat_propagate.specs.Internal.WatchLists.{WatchTable, NamesWatches, watchers}
use Rattle.sat_propagate.specs.Internal.Propagator.{IsPropagator, IsCovered, Watches, Enlists}
use Rattle.sat_propagate.specs.Internal.Insertion.{IsSooner, IsRank}
use Rattle.sat_propagate.specs.declared.trail.Step.{Step}
use Rattle.sat_propagate.specs.Internal.ClauseTable.{Watched}
use Rattle.sat_propagate.proofs.TableLaws.{take_literals_is}
use Rattle.sat_propagate.proofs.PropagatorLaws.{names_longer, names_new, reasoned_longer, starts_within, literals-push, take_literals}
use Rattle.sat_propagate.proofs.InsertLaws.{IsFit, clause_cases, cover_new, right_enlisted}

-- a literal that is false wherever another one is, is so in a beginning of the trail
pub sooner_take : (trail : List SatLit) (n : ℕ) (m l : SatLit) → IsSooner trail m l → IsSooner (take n trail) m l
sooner_take trail n m l sooner s h =
    elim (cases_order n (length trail)) [
      | inl same ↦ whole (omega arith)
      | inr apart ↦ elim apart [
        | inl less ↦ elim (cases_order s n) [
          | inl end ↦ part (omega arith)
          | inr other ↦ elim other [
            | inl before ↦ part (omega arith)
            | inr past ↦
                let long : length (take n trail) ≤ s = omega (arith, length-take-le n trail (omega arith)) in
                let all : take s (take n trail) ≡ take n trail = take_all s (take n trail) long in
                ap (λ (some : List SatLit). holds some (negated m)) all ∙ sooner n (ap (λ (some : List SatLit). holds some (negated l)) (sym all) ∙ h)
          ]
        ]
        | inr more ↦ whole (omega arith)
      ]
    ]
  where
    whole : length trail ≤ n → holds (take s (take n trail)) (negated m) ≡ true
    whole short =
        let all : take n trail ≡ trail = take_all n trail short in
        ap (λ (some : List SatLit). holds (take s some) (negated m)) all ∙ sooner s (ap (λ (some : List SatLit). holds (take s some) (negated l)) (sym all) ∙ h)

    part : s ≤ n → holds (take s (take n trail)) (negated m) ≡ true
    part within =
        let same : take s (take n trail) ≡ take s trail = take-take s n trail within in
        ap (λ (some : List SatLit). holds some (negated m)) same ∙ sooner s (ap (λ (some : List SatLit). holds some (negated l)) (sym same) ∙ h)

-- where the second literal of a clause is false and the first has no value, the first is the only open one
pub unit_after : (before after clause : List SatLit) (n : ℕ) (first second : SatLit) → after ≡ take n before → holds clause first ≡ true
    → ((m : SatLit) → holds clause m ≡ true → m ≢ first → IsSooner before m second) → holds after (negated second) ≡ true → mentions_variable after first.var ≡ false → IsUnitClause after clause first
unit_after before after clause n first second is member rest denied absent = record {
  member = member;
  still_open = false_from_ne_true (holds after (negated first)) (λ t. false≢true (sym absent ∙ mentions-held after (negated first) t));
  others = λ m h apart.
      ap (λ (some : List SatLit). holds some (negated m)) is ∙ rest m h apart n (ap (λ (some : List SatLit). holds some (negated second)) (sym is) ∙ denied);
}

-- what is left of a trail is a beginning of it
pub back_begins : (trail after : TrailState) (level : ℕ) → (level < length trail.starts → after.steps ≡ take (get_or trail.starts level 0) trail.steps) → (length trail.starts ≤ level → after ≡ trail)
    → (n : ℕ) × (literals after.steps ≡ take n (literals trail.steps))
back_begins trail after level shorter same =
    elim (cases_order level (length trail.starts)) [
      | inl end ↦ whole (omega arith)
      | inr other ↦ elim other [
        | inl less ↦ (get_or trail.starts level 0, ap literals (shorter less) ∙ sym (take_literals_is trail.steps (get_or trail.starts level 0)))
        | inr more ↦ whole (omega arith)
      ]
    ]
  where
    whole : length trail.starts ≤ level → (n : ℕ) × (literals after.steps ≡ take n (literals trail.steps))
    whole past = (
      length (literals trail.steps),
      ap (λ (t : TrailState). literals t.steps) (same past) ∙ sym (take_all (length (literals trail.steps)) (literals trail.steps) (omega arith)),
    )

-- a literal that is false at a place is so where the trail was gone back to a later place, or not at all
pub back_denied : (trail after : TrailState) (level place : ℕ) (l : SatLit) → (level < length trail.starts → after.steps ≡ take (get_or trail.starts level 0) trail.steps) → (length trail.starts ≤ level → after ≡ trail)
    → (level < length trail.starts → place < get_or trail.starts level 0) → IsTrail trail → IsRank (literals trail.steps) l place → holds (literals trail.steps) (negated l) ≡ true
    → holds (literals after.steps) (negated l) ≡ true
back_denied trail after level place l shorter same later whole rank denied =
    elim (cases_order level (length trail.starts)) [
      | inl end ↦ kept (omega arith)
      | inr other ↦ elim other [
        | inl less ↦
            let before : place < get_or trail.starts level 0 = later less in
            let within : get_or trail.starts level 0 < length trail.steps = whole.within level 0 less in
            let inside : place < length (literals trail.steps) = omega (arith, length-map trail.steps (λ (s : Step). s.literal)) in
            ap (λ (steps : List Step). holds (literals steps) (negated l)) (shorter less)
            ∙ ap (λ (some : List SatLit). holds some (negated l)) (sym (take_literals_is trail.steps (get_or trail.starts level 0)))
            ∙ rank.after inside (get_or trail.starts level 0) before
        | inr more ↦ kept (omega arith)
      ]
    ]
  where
    kept : length trail.starts ≤ level → holds (literals after.steps) (negated l) ≡ true
    kept past = ap (λ (t : TrailState). holds (literals t.steps) (negated l)) (same past) ∙ denied

-- a literal becomes true by a clause that is pushed at the same time
pub right_pushed : (trail after : TrailState) (processed n : ℕ) (clauses : List Watched) (lists : WatchTable) (new : Watched) (l : SatLit) → n ≡ length clauses
    → after.steps ≡ trail.steps ++ record { literal = l; reason = Some n } ∷ [] → after.starts ≡ trail.starts → length after.phases ≡ length trail.phases
    → IsUnitClause (literals trail.steps) new.clause l
    → IsFit (record { steps = trail.steps ++ record { literal = l; reason = Some n } ∷ []; starts = trail.starts; phases = trail.phases }) processed lists n new
    → IsPropagator trail processed clauses lists → IsPropagator after processed (clauses ++ new ∷ []) lists
right_pushed trail after processed n clauses lists new l n_is steps starts made unit fit right =
    subst (λ (list : List ℕ). IsPropagator (record { steps = after.steps; starts = list; phases = after.phases }) processed (clauses ++ new ∷ []) lists) (sym starts)
    (subst (λ (list : List Step). IsPropagator (record { steps = list; starts = trail.starts; phases = after.phases }) processed (clauses ++ new ∷ []) lists) (sym steps) longer)
  where
    last : Step
    last = record { literal = l; reason = Some n }

    all : List Watched
    all = clauses ++ new ∷ []

    there : slice_get all n ≡ Some new
    there = ap (slice_get all) n_is ∙ slice_get-seam clauses new

    kept_old : (other : Watched) → IsKept trail.starts (literals trail.steps) processed other.clause other.first other.second
        → IsKept trail.starts (literals (trail.steps ++ last ∷ [])) processed other.clause other.first other.second
    kept_old other kept =
        let inside : processed ≤ length (literals trail.steps) = omega (arith, right.processed_within, length-map trail.steps (λ (s : Step). s.literal)) in
        subst (λ (list : List SatLit). IsKept trail.starts list processed other.clause other.first other.second) (sym (literals-push trail.steps last))
        (kept_push trail.starts (literals trail.steps) processed other.clause other.first other.second l (starts_within trail processed right.started right.processed_within) inside kept)

    longer : IsPropagator (record { steps = trail.steps ++ record { literal = l; reason = Some n } ∷ []; starts = trail.starts; phases = after.phases }) processed (clauses ++ new ∷ []) lists
    longer = record {
      reasoned = λ i step at. reasoned_longer trail after.phases all last step n new refl there unit
          (λ k earlier earlier_at.
          let r = right.reasoned k earlier earlier_at in
          record {
            decided = r.decided;
            forced = λ j e.
                let u = r.forced j e in
                (u.0, slice_get-append clauses (new ∷ []) j u.0 u.1, u.2);
          }) i at;
      started = right.started;
      processed_within = omega (arith, right.processed_within, length-append trail.steps (last ∷ []));
      covered = λ k watched at. elim (clause_cases clauses new k watched at) [
        | inl old ↦
            let cover = right.covered k watched old in
            record { at = cover.at; part = cover.part; there = slice_get-append clauses (new ∷ []) cover.at cover.part cover.there; among = cover.among; kept = kept_old cover.part cover.kept }
        | inr end ↦ subst (λ (w : Watched). IsCovered trail.starts (literals (trail.steps ++ last ∷ [])) processed all w.clause) end.1
            (cover_new trail.starts (literals (trail.steps ++ last ∷ [])) processed clauses new fit.kept)
      ];
      members = λ k watched at. elim (clause_cases clauses new k watched at) [
        | inl old ↦ right.members k watched old
        | inr end ↦ subst (λ (w : Watched). (holds w.clause w.first ≡ true) × (holds w.clause w.second ≡ true)) end.1 fit.members
      ];
      listed = λ k watched m at. elim (clause_cases clauses new k watched at) [
        | inl old ↦ right.listed k watched m old
        | inr end ↦ subst (λ (j : ℕ). watched.first ≢ watched.second → Watches watched m → NamesWatches (watchers lists m) j watched.clause) (n_is ∙ sym end.0)
            (subst (λ (w : Watched). w.first ≢ w.second → Watches w m → NamesWatches (watchers lists m) n w.clause) end.1 (fit.listed m))
      ];
      over = λ k watched at. subst (λ (count : ℕ). IsOver count watched.clause) (sym made) (elim (clause_cases clauses new k watched at) [
        | inl old ↦ right.over k watched old
        | inr end ↦ subst (λ (w : Watched). IsOver (length trail.phases) w.clause) end.1 fit.over
      ]);
      lists_made = omega (arith, made, right.lists_made);
    }

-- a clause of two literals and more, whose second watched literal is false at no decision
pub right_forced : (trail after : TrailState) (processed n : ℕ) (clauses : List Watched) (lists more most : WatchTable) (clause : List SatLit) (first second : SatLit) → n ≡ length clauses
    → after.steps ≡ trail.steps ++ record { literal = first; reason = Some n } ∷ [] → after.starts ≡ trail.starts → length after.phases ≡ length trail.phases
    → holds clause second ≡ true → first ≢ second → IsOver (length trail.phases) clause → IsUnitClause (literals trail.steps) clause first
    → ((s : ℕ) → Contains trail.starts s → holds (take s (literals trail.steps)) (negated second) ≡ false)
    → Enlists lists more first (record { clause = n; blocker = second }) → length more ≡ length lists → Enlists more most second (record { clause = n; blocker = first }) → length most ≡ length more
    → IsPropagator trail processed clauses lists → IsPropagator after processed (clauses ++ record { clause = clause; first = first; second = second } ∷ []) most
right_forced trail after processed n clauses lists more most clause first second n_is steps starts made second_in apart over unit unseen enlists made_more enlists_next made_most right =
    right_pushed trail after processed n clauses most (record { clause = clause; first = first; second = second }) first n_is steps starts made unit fit
    (right_enlisted trail processed clauses more most second (record { clause = n; blocker = first }) enlists_next made_most
    (right_enlisted trail processed clauses lists more first (record { clause = n; blocker = second }) enlists made_more right))
  where
    last : Step
    last = record { literal = first; reason = Some n }

    longer : List SatLit
    longer = literals (trail.steps ++ record { literal = first; reason = Some n } ∷ [])

    true_now : satisfies longer clause ≡ true
    true_now = satisfied_by longer clause first unit.member
        (ap (λ (some : List SatLit). holds some first) (literals-push trail.steps last) ∙ holds-append (literals trail.steps) (first ∷ []) first
        ∙ or_right (holds (literals trail.steps) first) _ (or_left _ _ (same_literal-refl first)))

    before : (s : ℕ) → Contains trail.starts s → take s longer ≡ take s (literals trail.steps)
    before s at =
        let within = starts_within trail processed right.started right.processed_within s at in
        take_literals trail.steps last s (omega (arith, length-map trail.steps (λ (step : Step). step.literal)))

    fit : IsFit (record { steps = trail.steps ++ record { literal = first; reason = Some n } ∷ []; starts = trail.starts; phases = trail.phases }) processed most n (record { clause = clause; first = first; second = second })
    fit = record {
      kept = inl (record {
        first_in = unit.member;
        second_in = second_in;
        apart = apart;
        first_guarded = record {
          at_decisions = λ s at h. absurd (false≢true (sym unit.still_open
              ∙ held-take s (literals trail.steps) (negated first) (ap (λ (some : List SatLit). holds some (negated first)) (sym (before s at)) ∙ h)));
          now = λ h. true_now;
        };
        second_guarded = record {
          at_decisions = λ s at h. absurd (false≢true (sym (unseen s at) ∙ ap (λ (some : List SatLit). holds some (negated second)) (sym (before s at)) ∙ h));
          now = λ h. true_now;
        };
      });
      members = (unit.member, second_in);
      listed = λ l e watches. elim watches [
        | inl is_first ↦ subst (λ (m : SatLit). NamesWatches (watchers most m) n clause) is_first
            (names_longer more most second first (record { clause = n; blocker = first }) n clause enlists_next (names_new lists more first second n clause enlists second_in))
        | inr is_second ↦ subst (λ (m : SatLit). NamesWatches (watchers most m) n clause) is_second (names_new more most second first n clause enlists_next unit.member)
      ];
      over = over;
    }
