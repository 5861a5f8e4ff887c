-- What keeps a propagator right.
use Rattle.std.proofs.Common.{◌≡◌, ◌≢◌, ◌⊎◌, inl, inr, ◌<◌, ◌≤◌, ◌+◌, ℕ, Bool, true, false, List, [], ◌∷◌, ◌++◌, Some, None, map, length, take, get_or, eqb, set, refl, sym, ap, ◌∙◌, subst, arith, length-append, append_assoc}
use Rattle.std.specs.Prelude.{if◌then◌else◌}
use Rattle.std.specs.List.{All, Contains, slice_get, swap_remove, IsDistinct, AllByRecursion, list_any}
use Rattle.std.proofs.lemmas.Bool.{false≢true, cases_Bool, cases_order, or_left, or_parts, or_cases, eqb-true}
use Rattle.std.proofs.lemmas.List.{take-append-le, take_all, map-append, length-map}
use Rattle.std.proofs.lemmas.Map.Steps.{length-le_from_distinct_below}
use Rattle.sat_base.specs.declared.literal.Var.{Var}
use Rattle.std.specs.Option.{option_map}
use Rattle.std.proofs.lemmas.List.Elements.{All-contains, All-head, All-tail, All-push, Contains-append_left, Contains-push, Contains-push_cases}
use Rattle.std.proofs.lemmas.Option.{slice_get_within, same_Some, get_or_from_slice_get, slice_get-map}
use Rattle.sat_base.specs.declared.literal.SatLit.{SatLit}
use Rattle.sat_base.specs.Literal.{negated, same_var, same_literal, holds, mentions_variable, HoldsNoVariableTwice, IsOver}
use Rattle.sat_base.proofs.LiteralLaws.{same_literal-true, same_literal-refl, holds-append, negated-negated, All-held}
use Rattle.sat_log.specs.Propagation.{IsUnitClause}
use Rattle.sat_log.proofs.ChainLaws.{slice_get-append, slice_get-before, slice_get-seam}
use Rattle.sat_laws.specs.Internal.Complete.{satisfies, IsClausePart}
use Rattle.sat_laws.specs.Internal.Watching.{IsKept}
use Rattle.sat_laws.proofs.CompleteLaws.{satisfied_by, satisfies-more}
use Rattle.sat_laws.proofs.WatchLaws.{AreWithin, kept_push, kept_start, kept_next, kept_rewatched, kept_from_pair, kept_to_pair}
use Rattle.sat_laws.proofs.TrailLaws.{held_at}
use Rattle.sat_propagate.specs.Internal.Trail.{TrailState, literals, IsTrail}
use Rattle.sat_propagate.specs.Internal.WatchLists.{WatchTable, NamesWatches, watchers}
use Rattle.sat_propagate.specs.Internal.Propagator.{IsReasoned, IsPair, Watches, IsPropagator, IsWatchDone, AreDone, AreEntriesDone, Rewatched, IsCovered, Enlists, Grew, texts}
use Rattle.sat_propagate.specs.declared.trail.Step.{Step}
use Rattle.sat_propagate.specs.declared.watch_lists.Watch.{Watch}
use Rattle.sat_propagate.specs.Internal.ClauseTable.{Watched}
use Rattle.sat_propagate.proofs.ListLaws.{map-set_same, get-past_seam, get-set_same, get-set_other, get-swap_remove_before, kept-swap_remove}

pub if_true : {X : Type 0} (b : Bool) (x y : X) → b ≡ true → (if b then x else y) ≡ x
if_true true x y e = refl
if_true false x y e = absurd (false≢true e)

pub if_false : {X : Type 0} (b : Bool) (x y : X) → b ≡ false → (if b then x else y) ≡ y
if_false true x y e = absurd (false≢true (sym e))
if_false false x y e = refl

-- the lists where an entry of a literal's list is taken out
abbrev pub Removes : WatchTable → WatchTable → SatLit → ℕ → Watch → Type 0
Removes before after l i entry = (m : SatLit) → watchers after m ≡ (if same_literal l m then swap_remove (watchers before m) i entry else watchers before m)

-- the lists where an entry of a literal's list is put in the place of another
abbrev pub Replaces : WatchTable → WatchTable → SatLit → ℕ → Watch → Type 0
Replaces before after l i entry = (m : SatLit) → watchers after m ≡ (if same_literal l m then set (watchers before m) i entry else watchers before m)

-- 1. An entry is taken out that names no clause which watches the literal

names_after_removal : (clauses : List Watched) (before after : WatchTable) (from : SatLit) (i : ℕ) (entry : Watch) → i < length (watchers before from) → slice_get (watchers before from) i ≡ Some entry
    → ((watched : Watched) → slice_get clauses entry.clause ≡ Some watched → watched.first ≢ watched.second → Watches watched from → ⊥) → Removes before after from i entry
    → (n : ℕ) (watched : Watched) (l : SatLit) → slice_get clauses n ≡ Some watched → watched.first ≢ watched.second → Watches watched l → NamesWatches (watchers before l) n watched.clause → NamesWatches (watchers after l) n watched.clause
names_after_removal clauses before after from i entry inside there idle removes n watched l at apart watches names =
    elim (cases_Bool (same_literal from l)) [
      | inl same ↦ here (same_literal-true from l same)
      | inr other ↦ subst (λ (entries : List Watch). NamesWatches entries n watched.clause) (sym (removes l ∙ if_false (same_literal from l) _ _ other)) names
    ]
  where
    gone : from ≡ l → names.at ≡ i → ⊥
    gone e same_place =
        let found : Some names.entry ≡ Some entry = sym names.there ∙ ap (slice_get (watchers before l)) same_place ∙ ap (λ (m : SatLit). slice_get (watchers before m) i) (sym e) ∙ there in
        let clause_is : entry.clause ≡ n = ap (λ (w : Watch). w.clause) (sym (same_Some _ _ found)) ∙ names.named in
        idle watched (ap (slice_get clauses) clause_is ∙ at) apart (subst (Watches watched) (sym e) watches)

    here : from ≡ l → NamesWatches (watchers after l) n watched.clause
    here e =
        let inside_l : i < length (watchers before l) = subst (λ (m : SatLit). i < length (watchers before m)) e inside in
        let kept = kept-swap_remove (watchers before l) i names.at entry names.entry inside_l (gone e) names.there in
        let list : watchers after l ≡ swap_remove (watchers before l) i entry = removes l ∙ if_true (same_literal from l) _ _ (subst (λ (m : SatLit). same_literal from m ≡ true) e (same_literal-refl from)) in
        record { at = kept.0; entry = names.entry; there = ap (λ (entries : List Watch). slice_get entries kept.0) list ∙ kept.1; named = names.named; blocks = names.blocks }

pub right_removed : (trail : TrailState) (processed : ℕ) (clauses : List Watched) (before after : WatchTable) (from : SatLit) (i : ℕ) (entry : Watch)
    → i < length (watchers before from) → slice_get (watchers before from) i ≡ Some entry
    → ((watched : Watched) → slice_get clauses entry.clause ≡ Some watched → watched.first ≢ watched.second → Watches watched from → ⊥) → Removes before after from i entry → length after ≡ length before
    → IsPropagator trail processed clauses before → IsPropagator trail processed clauses after
right_removed trail processed clauses before after from i entry inside there idle removes made right = record {
  reasoned = right.reasoned;
  started = right.started;
  processed_within = right.processed_within;
  covered = right.covered;
  members = right.members;
  listed = λ n watched l at apart watches. names_after_removal clauses before after from i entry inside there idle removes n watched l at apart watches (right.listed n watched l at apart watches);
  over = right.over;
  lists_made = omega (arith, made, right.lists_made);
}

pub done_removed : (trail : TrailState) (clauses : List Watched) (from : SatLit) (entries : List Watch) (i : ℕ) (entry : Watch) → i < length entries
    → AreEntriesDone trail clauses from entries i → AreEntriesDone trail clauses from (swap_remove entries i entry) i
done_removed trail clauses from entries i entry inside done k other below at = done k other below (sym (get-swap_remove_before entries i k entry below inside) ∙ at)

-- 2. An entry gets another blocker of its clause

names_after_write : (clauses : List Watched) (before after : WatchTable) (from : SatLit) (i : ℕ) (old entry : Watch) → i < length (watchers before from) → slice_get (watchers before from) i ≡ Some old
    → old.clause ≡ entry.clause → ((watched : Watched) → slice_get clauses entry.clause ≡ Some watched → holds watched.clause entry.blocker ≡ true) → Replaces before after from i entry
    → (n : ℕ) (watched : Watched) (l : SatLit) → slice_get clauses n ≡ Some watched → NamesWatches (watchers before l) n watched.clause → NamesWatches (watchers after l) n watched.clause
names_after_write clauses before after from i old entry inside there same_clause blocks replaces n watched l at names =
    elim (cases_Bool (same_literal from l)) [
      | inl same ↦ here (same_literal-true from l same) (cases_order names.at i)
      | inr other ↦ subst (λ (entries : List Watch). NamesWatches entries n watched.clause) (sym (replaces l ∙ if_false (same_literal from l) _ _ other)) names
    ]
  where
    list : from ≡ l → watchers after l ≡ set (watchers before l) i entry
    list e = replaces l ∙ if_true (same_literal from l) _ _ (subst (λ (m : SatLit). same_literal from m ≡ true) e (same_literal-refl from))

    elsewhere : from ≡ l → names.at ≢ i → NamesWatches (watchers after l) n watched.clause
    elsewhere e apart = record {
      at = names.at;
      entry = names.entry;
      there = ap (λ (entries : List Watch). slice_get entries names.at) (list e) ∙ get-set_other (watchers before l) i names.at entry apart ∙ names.there;
      named = names.named;
      blocks = names.blocks;
    }

    here : from ≡ l → (names.at ≡ i) ⊎ ((names.at < i) ⊎ (i < names.at)) → NamesWatches (watchers after l) n watched.clause
    here e (inl same_place) =
        let inside_l : i < length (watchers before l) = subst (λ (m : SatLit). i < length (watchers before m)) e inside in
        let found : Some names.entry ≡ Some old = sym names.there ∙ ap (slice_get (watchers before l)) same_place ∙ ap (λ (m : SatLit). slice_get (watchers before m) i) (sym e) ∙ there in
        let clause_is : entry.clause ≡ n = sym same_clause ∙ ap (λ (w : Watch). w.clause) (sym (same_Some _ _ found)) ∙ names.named in
        record {
          at = i;
          entry = entry;
          there = ap (λ (entries : List Watch). slice_get entries i) (list e) ∙ get-set_same (watchers before l) i entry inside_l;
          named = clause_is;
          blocks = blocks watched (ap (slice_get clauses) clause_is ∙ at);
        }
    here e (inr (inl before_it)) = elsewhere e (omega arith)
    here e (inr (inr after_it)) = elsewhere e (omega arith)

pub right_written : (trail : TrailState) (processed : ℕ) (clauses : List Watched) (before after : WatchTable) (from : SatLit) (i : ℕ) (old entry : Watch)
    → i < length (watchers before from) → slice_get (watchers before from) i ≡ Some old → old.clause ≡ entry.clause
    → ((watched : Watched) → slice_get clauses entry.clause ≡ Some watched → holds watched.clause entry.blocker ≡ true) → Replaces before after from i entry → length after ≡ length before
    → IsPropagator trail processed clauses before → IsPropagator trail processed clauses after
right_written trail processed clauses before after from i old entry inside there same_clause blocks replaces made right = record {
  reasoned = right.reasoned;
  started = right.started;
  processed_within = right.processed_within;
  covered = right.covered;
  members = right.members;
  listed = λ n watched l at apart watches. names_after_write clauses before after from i old entry inside there same_clause blocks replaces n watched l at (right.listed n watched l at apart watches);
  over = right.over;
  lists_made = omega (arith, made, right.lists_made);
}

-- one more entry is done, where its clause is true if it is its clause's
pub done_more : (trail : TrailState) (clauses : List Watched) (from : SatLit) (entries : List Watch) (i : ℕ) (entry : Watch) → slice_get entries i ≡ Some entry
    → IsWatchDone trail clauses from entry → AreEntriesDone trail clauses from entries i → AreEntriesDone trail clauses from entries (i + 1)
done_more trail clauses from entries i entry there done before k other below at =
    elim (cases_order k i) [
      | inl same ↦ subst (IsWatchDone trail clauses from) (same_Some _ _ (sym there ∙ ap (slice_get entries) (sym same) ∙ at)) done
      | inr apart ↦ elim apart [
        | inl less ↦ before k other less at
        | inr more ↦ absurd (omega arith)
      ]
    ]

-- an entry with a true blocker is done
pub done_by_blocker : (trail : TrailState) (clauses : List Watched) (from : SatLit) (entry : Watch) → holds (literals trail.steps) entry.blocker ≡ true → IsWatchDone trail clauses from entry
done_by_blocker trail clauses from entry blocked watched at watches member = satisfied_by (literals trail.steps) watched.clause entry.blocker member blocked

pub done_written : (trail : TrailState) (clauses : List Watched) (from : SatLit) (entries : List Watch) (i : ℕ) (entry : Watch)
    → AreEntriesDone trail clauses from entries i → AreEntriesDone trail clauses from (set entries i entry) i
done_written trail clauses from entries i entry done k other below at =
    let apart : k ≢ i = omega arith in
    done k other below (sym (get-set_other entries i k entry apart) ∙ at)

-- 3. A literal follows from a clause

-- a step of the longer trail is one of the shorter one, or the last
pub step_cases : (steps : List Step) (last : Step) (i : ℕ) (step : Step) → slice_get (steps ++ last ∷ []) i ≡ Some step
    → ((i < length steps) × (slice_get steps i ≡ Some step)) ⊎ ((i ≡ length steps) × (last ≡ step))
step_cases steps last i step at =
    elim (cases_order i (length steps)) [
      | inl end ↦ inr (end, same_Some _ _ (sym (slice_get-seam steps last) ∙ ap (slice_get (steps ++ last ∷ [])) (sym end) ∙ at))
      | inr other ↦ elim other [
        | inl before ↦ inl (before, sym (slice_get-before steps (last ∷ []) i before) ∙ at)
        | inr after ↦ absurd (get-past_seam steps last i step after at)
      ]
    ]

pub literals-push : (steps : List Step) (last : Step) → literals (steps ++ last ∷ []) ≡ literals steps ++ last.literal ∷ []
literals-push steps last = map-append (λ (step : Step). step.literal) steps (last ∷ [])

pub take_literals : (steps : List Step) (last : Step) (i : ℕ) → i ≤ length steps → take i (literals (steps ++ last ∷ [])) ≡ take i (literals steps)
take_literals steps last i h =
    let short : i ≤ length (literals steps) = omega (arith, length-map steps (λ (step : Step). step.literal)) in
    ap (take i) (literals-push steps last) ∙ take-append-le i (literals steps) (last.literal ∷ []) short

pub starts_within : (trail : TrailState) (processed : ℕ) → All (λ s. s ≤ processed) trail.starts → processed ≤ length trail.steps → AreWithin trail.starts (length (literals trail.steps))
starts_within trail processed started within s at =
    let below : s ≤ processed = All-contains (λ (k : ℕ). k ≤ processed) trail.starts s started at in
    omega (arith, length-map trail.steps (λ (step : Step). step.literal))

none_is_no_number : (n : ℕ) → Some n ≡ None → ⊥
none_is_no_number n e = cc

pub reasoned_longer : (trail : TrailState) (phases : List Bool) (clauses : List Watched) (last step : Step) (n : ℕ) (watched : Watched) → last.reason ≡ Some n → slice_get clauses n ≡ Some watched
    → IsUnitClause (literals trail.steps) watched.clause last.literal → ((i : ℕ) (step : Step) → slice_get trail.steps i ≡ Some step → IsReasoned clauses trail i step)
    → (i : ℕ) → slice_get (trail.steps ++ last ∷ []) i ≡ Some step → IsReasoned clauses (record { steps = trail.steps ++ last ∷ []; starts = trail.starts; phases = phases }) i step
reasoned_longer trail phases clauses last step n watched reason there unit reasoned i at =
    elim (step_cases trail.steps last i step at) [
      | inl before ↦
          let r = reasoned i step before.1 in
          let short : i ≤ length trail.steps = let below = before.0 in omega arith in
          record {
            decided = r.decided;
            forced = λ k e.
                let u = r.forced k e in
                (u.0, u.1, subst (λ (earlier : List SatLit). IsUnitClause earlier u.0.clause step.literal) (sym (take_literals trail.steps last i short)) u.2);
          }
      | inr end ↦
          let at_end : i ≡ length trail.steps = end.0 in
          let reason_is : step.reason ≡ Some n = ap (λ (s : Step). s.reason) (sym end.1) ∙ reason in
          let short : i ≤ length trail.steps = omega arith in
          let long : length (literals trail.steps) ≤ i = omega (arith, length-map trail.steps (λ (s : Step). s.literal)) in
          let earlier : take i (literals (trail.steps ++ last ∷ [])) ≡ literals trail.steps = take_literals trail.steps last i short ∙ take_all i (literals trail.steps) long in
          record {
            decided = λ e. absurd (none_is_no_number n (sym reason_is ∙ e));
            forced = λ k e. (
              watched,
              ap (slice_get clauses) (sym (same_Some _ _ (sym reason_is ∙ e))) ∙ there,
              subst (λ (list : List SatLit). IsUnitClause list watched.clause step.literal) (sym earlier)
                  (subst (λ (s : Step). IsUnitClause (literals trail.steps) watched.clause s.literal) end.1 unit),
            );
          }
    ]

right_longer : (trail : TrailState) (phases : List Bool) (processed : ℕ) (clauses : List Watched) (lists : WatchTable) (n : ℕ) (watched : Watched) (l : SatLit)
    → length phases ≡ length trail.phases → slice_get clauses n ≡ Some watched → IsUnitClause (literals trail.steps) watched.clause l
    → IsPropagator trail processed clauses lists → IsPropagator (record { steps = trail.steps ++ record { literal = l; reason = Some n } ∷ []; starts = trail.starts; phases = phases }) processed clauses lists
right_longer trail phases processed clauses lists n watched l made there unit right = record {
  reasoned = λ i step at. reasoned_longer trail phases clauses (record { literal = l; reason = Some n }) step n watched refl there unit right.reasoned i at;
  started = right.started;
  processed_within = omega (arith, right.processed_within, length-append trail.steps (record { literal = l; reason = Some n } ∷ []));
  covered = λ k other at.
      let inside : processed ≤ length (literals trail.steps) = omega (arith, right.processed_within, length-map trail.steps (λ (s : Step). s.literal)) in
      let cover = right.covered k other at in
      let part = cover.part in
      record {
        at = cover.at;
        part = part;
        there = cover.there;
        among = cover.among;
        kept = subst (λ (list : List SatLit). IsKept trail.starts list processed part.clause part.first part.second)
            (sym (literals-push trail.steps (record { literal = l; reason = Some n })))
            (kept_push trail.starts (literals trail.steps) processed part.clause part.first part.second l (starts_within trail processed right.started right.processed_within) inside cover.kept);
      };
  members = right.members;
  listed = right.listed;
  over = λ k other at. subst (λ (m : ℕ). IsOver m other.clause) (sym made) (right.over k other at);
  lists_made = omega (arith, made, right.lists_made);
}

pub right_assigned : (trail after : TrailState) (processed : ℕ) (clauses : List Watched) (lists : WatchTable) (n : ℕ) (watched : Watched) (l : SatLit)
    → after.steps ≡ trail.steps ++ record { literal = l; reason = Some n } ∷ [] → after.starts ≡ trail.starts → length after.phases ≡ length trail.phases
    → slice_get clauses n ≡ Some watched → IsUnitClause (literals trail.steps) watched.clause l
    → IsPropagator trail processed clauses lists → IsPropagator after processed clauses lists
right_assigned trail after processed clauses lists n watched l steps starts made there unit right =
    subst (λ (list : List ℕ). IsPropagator (record { steps = after.steps; starts = list; phases = after.phases }) processed clauses lists) (sym starts)
    (subst (λ (list : List Step). IsPropagator (record { steps = list; starts = trail.starts; phases = after.phases }) processed clauses lists) (sym steps) longer)
  where
    last : Step
    last = record { literal = l; reason = Some n }

    state : TrailState
    state = record { steps = trail.steps ++ record { literal = l; reason = Some n } ∷ []; starts = trail.starts; phases = after.phases }

    longer : IsPropagator (record { steps = trail.steps ++ record { literal = l; reason = Some n } ∷ []; starts = trail.starts; phases = after.phases }) processed clauses lists
    longer = right_longer trail after.phases processed clauses lists n watched l made there unit right

-- entries that are done stay so where the trail grows
pub done_longer : (trail : TrailState) (more : List Step) (after : TrailState) (clauses : List Watched) (from : SatLit) (entries : List Watch) (i : ℕ) → after.steps ≡ trail.steps ++ more
    → AreEntriesDone trail clauses from entries i → AreEntriesDone after clauses from entries i
done_longer trail more after clauses from entries i steps done k entry below at watched there watches member =
    subst (λ (list : List Step). satisfies (literals list) watched.clause ≡ true) (sym steps)
    (satisfies-more (literals trail.steps) (literals (trail.steps ++ more)) watched.clause
    (λ l h. subst (λ (list : List SatLit). holds list l ≡ true) (sym (map-append (λ (s : Step). s.literal) trail.steps more))
    (holds-append (literals trail.steps) (literals more) l ∙ or_left _ _ h))
    (done k entry below at watched there watches member))

-- 4. Another literal is watched

-- the names in a list are still there in a longer one
pub names_longer : (lists more : WatchTable) (to l : SatLit) (entry : Watch) (n : ℕ) (clause : List SatLit) → Enlists lists more to entry
    → NamesWatches (watchers lists l) n clause → NamesWatches (watchers more l) n clause
names_longer lists more to l entry n clause enlists names =
    elim (cases_Bool (same_literal to l)) [
      | inl same ↦ record {
        at = names.at;
        entry = names.entry;
        there = ap (λ (entries : List Watch). slice_get entries names.at) (enlists l ∙ if_true (same_literal to l) _ _ same)
            ∙ slice_get-append (watchers lists l) (entry ∷ []) names.at names.entry names.there;
        named = names.named;
        blocks = names.blocks;
      }
      | inr other ↦ subst (λ (entries : List Watch). NamesWatches entries n clause) (sym (enlists l ∙ if_false (same_literal to l) _ _ other)) names
    ]

pub names_new : (lists more : WatchTable) (to blocker : SatLit) (n : ℕ) (clause : List SatLit) → Enlists lists more to (record { clause = n; blocker = blocker })
    → holds clause blocker ≡ true → NamesWatches (watchers more to) n clause
names_new lists more to blocker n clause enlists member = record {
  at = length (watchers lists to);
  entry = record { clause = n; blocker = blocker };
  there = ap (λ (entries : List Watch). slice_get entries (length (watchers lists to))) (enlists to ∙ if_true (same_literal to to) _ _ (same_literal-refl to))
      ∙ slice_get-seam (watchers lists to) (record { clause = n; blocker = blocker });
  named = refl;
  blocks = member;
}

-- a clause after the change is the changed one, or one of those before
pub changed_cases : (before after : List Watched) (n : ℕ) (from to other : SatLit) (changed : Rewatched before after n from to other) (k : ℕ) (watched : Watched)
    → slice_get after k ≡ Some watched → ((k ≡ n) × (changed.new ≡ watched)) ⊎ ((k ≢ n) × (slice_get before k ≡ Some watched))
changed_cases before after n from to other changed k watched at =
    elim (cases_order k n) [
      | inl same ↦ inl (same, same_Some _ _ (sym changed.is ∙ ap (slice_get after) (sym same) ∙ at))
      | inr apart ↦ elim apart [
        | inl less ↦ let ne : k ≢ n = omega arith in inr (ne, sym (changed.others k ne) ∙ at)
        | inr more ↦ let ne : k ≢ n = omega arith in inr (ne, sym (changed.others k ne) ∙ at)
      ]
    ]

pub pair_members : (watched : Watched) (l other : SatLit) → IsPair watched l other → holds watched.clause watched.first ≡ true → holds watched.clause watched.second ≡ true
    → (holds watched.clause l ≡ true) × (holds watched.clause other ≡ true)
pair_members watched l other (inl p) f s = (ap (holds watched.clause) (sym p.0) ∙ f, ap (holds watched.clause) (sym p.1) ∙ s)
pair_members watched l other (inr p) f s = (ap (holds watched.clause) (sym p.0) ∙ s, ap (holds watched.clause) (sym p.1) ∙ f)

members_pair : (watched : Watched) (l other : SatLit) → IsPair watched l other → holds watched.clause l ≡ true → holds watched.clause other ≡ true
    → (holds watched.clause watched.first ≡ true) × (holds watched.clause watched.second ≡ true)
members_pair watched l other (inl p) f s = (ap (holds watched.clause) p.0 ∙ f, ap (holds watched.clause) p.1 ∙ s)
members_pair watched l other (inr p) f s = (ap (holds watched.clause) p.1 ∙ s, ap (holds watched.clause) p.0 ∙ f)

pair_watches : (watched : Watched) (l other : SatLit) → IsPair watched l other → Watches watched other
pair_watches watched l other (inl p) = inr p.1
pair_watches watched l other (inr p) = inl p.1

pub watches_pair : (watched : Watched) (a b l : SatLit) → IsPair watched a b → Watches watched l → (l ≡ a) ⊎ (l ≡ b)
watches_pair watched a b l (inl p) (inl w) = inl (sym w ∙ p.0)
watches_pair watched a b l (inl p) (inr w) = inr (sym w ∙ p.1)
watches_pair watched a b l (inr p) (inl w) = inr (sym w ∙ p.1)
watches_pair watched a b l (inr p) (inr w) = inl (sym w ∙ p.0)

-- the literal that is watched in place of another is in the clause, and another than both
pub record IsFresh (trail : TrailState) (clause : List SatLit) (from to other : SatLit) : Type 0 where
  pub member : holds clause to ≡ true
  pub new : to ≢ from
  pub apart : to ≢ other
  pub undenied : holds (literals trail.steps) (negated to) ≡ false

pub right_rewatched : (trail : TrailState) (processed : ℕ) (before after : List Watched) (lists more : WatchTable) (n : ℕ) (from to other : SatLit)
    (changed : Rewatched before after n from to other) → Enlists lists more to (record { clause = n; blocker = other }) → length more ≡ length lists
    → IsFresh trail changed.old.clause from to other → changed.old.first ≢ changed.old.second
    → IsPropagator trail processed before lists → IsPropagator trail processed after more
right_rewatched trail processed before after lists more n from to other changed enlists made fresh distinct right = record {
  reasoned = λ i step at.
      let r = right.reasoned i step at in
      record {
        decided = r.decided;
        forced = λ k e. reason_after k (take i (literals trail.steps)) step.literal (r.forced k e);
      };
  started = right.started;
  processed_within = right.processed_within;
  covered = λ k watched at. elim (changed_cases before after n from to other changed k watched at) [
    | inl same ↦ subst Covered (sym changed.text ∙ ap (λ (w : Watched). w.clause) same.1) (cover_after changed.old.clause (right.covered n changed.old changed.was))
    | inr old ↦ cover_after watched.clause (right.covered k watched old.1)
  ];
  members = λ k watched at. elim (changed_cases before after n from to other changed k watched at) [
    | inl same ↦ subst Members same.1 (members_pair changed.new to other changed.pair_after to_in other_in)
    | inr old ↦ right.members k watched old.1
  ];
  listed = λ k watched l at apart watches. elim (changed_cases before after n from to other changed k watched at) [
    | inl same ↦ listed_new k watched l same.0 same.1 watches
    | inr old ↦ names_longer lists more to l (record { clause = n; blocker = other }) k watched.clause enlists (right.listed k watched l old.1 apart watches)
  ];
  over = λ k watched at. elim (changed_cases before after n from to other changed k watched at) [
    | inl same ↦ subst (λ (w : Watched). IsOver (length trail.phases) w.clause) same.1 (subst (IsOver (length trail.phases)) (sym changed.text) (right.over n changed.old changed.was))
    | inr old ↦ right.over k watched old.1
  ];
  lists_made = omega (arith, made, right.lists_made);
}
  where
    old_members : (holds changed.old.clause from ≡ true) × (holds changed.old.clause other ≡ true)
    old_members =
        let both = right.members n changed.old changed.was in
        pair_members changed.old from other changed.pair_before both.0 both.1

    to_in : holds changed.new.clause to ≡ true
    to_in = ap (λ (c : List SatLit). holds c to) changed.text ∙ fresh.member

    other_in : holds changed.new.clause other ≡ true
    other_in = ap (λ (c : List SatLit). holds c other) changed.text ∙ old_members.1

    Covered : List SatLit → Type 0
    Covered clause = IsCovered trail.starts (literals trail.steps) processed after clause

    Members : Watched → Type 0
    Members w = (holds w.clause w.first ≡ true) × (holds w.clause w.second ≡ true)

    kept_new : IsKept trail.starts (literals trail.steps) processed changed.old.clause changed.old.first changed.old.second
        → IsKept trail.starts (literals trail.steps) processed changed.new.clause changed.new.first changed.new.second
    kept_new was_kept =
        kept_to_pair trail.starts (literals trail.steps) processed changed.new.clause changed.new.first changed.new.second to other changed.pair_after
        (subst (λ (c : List SatLit). IsKept trail.starts (literals trail.steps) processed c to other) (sym changed.text)
        (kept_rewatched trail.starts (literals trail.steps) processed changed.old.clause from to other fresh.member fresh.apart fresh.undenied
        (kept_from_pair trail.starts (literals trail.steps) processed changed.old.clause changed.old.first changed.old.second from other changed.pair_before was_kept)))

    cover_after : (clause : List SatLit) → IsCovered trail.starts (literals trail.steps) processed before clause → IsCovered trail.starts (literals trail.steps) processed after clause
    cover_after clause cover =
        elim (cases_order cover.at n) [
          | inl same ↦
              let is_old : cover.part ≡ changed.old = same_Some _ _ (sym cover.there ∙ ap (slice_get before) same ∙ changed.was) in
              record {
                at = n;
                part = changed.new;
                there = changed.is;
                among = subst (λ (c : List SatLit). IsClausePart c clause) (ap (λ (w : Watched). w.clause) is_old ∙ sym changed.text) cover.among;
                kept = kept_new (subst (λ (w : Watched). IsKept trail.starts (literals trail.steps) processed w.clause w.first w.second) is_old cover.kept);
              }
          | inr apart ↦ elim apart [
            | inl less ↦ let ne : cover.at ≢ n = omega arith in record { at = cover.at; part = cover.part; there = changed.others cover.at ne ∙ cover.there; among = cover.among; kept = cover.kept }
            | inr more_than ↦ let ne : cover.at ≢ n = omega arith in record { at = cover.at; part = cover.part; there = changed.others cover.at ne ∙ cover.there; among = cover.among; kept = cover.kept }
          ]
        ]

    reason_after : (k : ℕ) (earlier : List SatLit) (l : SatLit) → (watched : Watched) × (slice_get before k ≡ Some watched) × IsUnitClause earlier watched.clause l
        → (watched : Watched) × (slice_get after k ≡ Some watched) × IsUnitClause earlier watched.clause l
    reason_after k earlier l u =
        elim (cases_order k n) [
          | inl same ↦ (
            changed.new,
            ap (slice_get after) same ∙ changed.is,
            subst (λ (c : List SatLit). IsUnitClause earlier c l)
                (ap (λ (w : Watched). w.clause) (same_Some _ _ (sym u.1 ∙ ap (slice_get before) same ∙ changed.was)) ∙ sym changed.text) u.2,
          )
          | inr apart ↦ elim apart [
            | inl less ↦ let ne : k ≢ n = omega arith in (u.0, changed.others k ne ∙ u.1, u.2)
            | inr more_than ↦ let ne : k ≢ n = omega arith in (u.0, changed.others k ne ∙ u.1, u.2)
          ]
        ]

    listed_new : (k : ℕ) (watched : Watched) (l : SatLit) → k ≡ n → changed.new ≡ watched → Watches watched l → NamesWatches (watchers more l) k watched.clause
    listed_new k watched l same_number same watches =
        subst (λ (m : ℕ). NamesWatches (watchers more l) m watched.clause) (sym same_number)
        (subst (λ (w : Watched). NamesWatches (watchers more l) n w.clause) same
        (elim (watches_pair changed.new to other l changed.pair_after (subst (λ (w : Watched). Watches w l) (sym same) watches)) [
          | inl is_to ↦ subst (λ (m : SatLit). NamesWatches (watchers more m) n changed.new.clause) (sym is_to) (names_new lists more to other n changed.new.clause enlists other_in)
          | inr is_other ↦ subst (λ (m : SatLit). NamesWatches (watchers more m) n changed.new.clause) (sym is_other)
              (subst (λ (c : List SatLit). NamesWatches (watchers more other) n c) (sym changed.text)
              (names_longer lists more to other (record { clause = n; blocker = other }) n changed.old.clause enlists
              (right.listed n changed.old other changed.was distinct
              (pair_watches changed.old from other changed.pair_before))))
        ]))

pub distinct_from : (watched : Watched) (from other : SatLit) → IsPair watched from other → watched.first ≢ watched.second → from ≢ other
distinct_from watched from other (inl p) apart e = apart (p.0 ∙ e ∙ sym p.1)
distinct_from watched from other (inr p) apart e = apart (p.1 ∙ sym e ∙ sym p.0)

pub done_rewatched : (trail : TrailState) (before after : List Watched) (entries : List Watch) (n : ℕ) (from to other : SatLit)
    (changed : Rewatched before after n from to other) → to ≢ from → from ≢ other → (i : ℕ) → AreEntriesDone trail before from entries i → AreEntriesDone trail after from entries i
done_rewatched trail before after entries n from to other changed new apart i done k entry below at watched there watches member =
    elim (changed_cases before after n from to other changed entry.clause watched there) [
      | inl same ↦ elim (watches_pair changed.new to other from changed.pair_after (subst (λ (w : Watched). Watches w from) (sym same.1) watches)) [
        | inl is_to ↦ absurd (new (sym is_to))
        | inr is_other ↦ absurd (apart is_other)
      ]
      | inr old ↦ done k entry below at watched old.1 watches member
    ]

-- a written clause
pub rewatched_by_write : (before after : List Watched) (n : ℕ) (from to other : SatLit) (old new : Watched) → slice_get before n ≡ Some old → after ≡ set before n new
    → new.clause ≡ old.clause → IsPair old from other → IsPair new to other → Rewatched before after n from to other
rewatched_by_write before after n from to other old new was written text pair pair_after = record {
  old = old;
  new = new;
  was = was;
  is = ap (λ (list : List Watched). slice_get list n) written ∙ get-set_same before n new (slice_get_within before n old was);
  text = text;
  pair_before = pair;
  pair_after = pair_after;
  others = λ k apart. ap (λ (list : List Watched). slice_get list k) written ∙ get-set_other before n k new apart;
  texts_same = ap texts written ∙ map-set_same (λ (w : Watched). w.clause) before n old new was text;
}

-- 5. One more literal is processed

listed_true : (trail : TrailState) (processed : ℕ) (clauses : List Watched) (lists : WatchTable) (falsified : SatLit) (n : ℕ) (watched : Watched) → IsPropagator trail processed clauses lists
    → AreDone trail clauses lists falsified (length (watchers lists falsified)) → slice_get clauses n ≡ Some watched → watched.first ≢ watched.second → Watches watched falsified
    → satisfies (literals trail.steps) watched.clause ≡ true
listed_true trail processed clauses lists falsified n watched right done at apart watches =
    let names = right.listed n watched falsified at apart watches in
    done names.at names.entry (slice_get_within (watchers lists falsified) names.at names.entry names.there) names.there watched (ap (slice_get clauses) names.named ∙ at) watches names.blocks

pub right_next : (trail : TrailState) (processed : ℕ) (clauses : List Watched) (lists : WatchTable) (step : Step) (falsified : SatLit) → IsPropagator trail processed clauses lists
    → slice_get trail.steps processed ≡ Some step → falsified ≡ negated step.literal → AreDone trail clauses lists falsified (length (watchers lists falsified))
    → IsPropagator trail (processed + 1) clauses lists
right_next trail processed clauses lists step falsified right at is done = record {
  reasoned = right.reasoned;
  started = λ k d h. let before = right.started k d h in omega arith;
  processed_within = omega (arith, inside);
  covered = λ n watched there.
      let cover = right.covered n watched there in
      record { at = cover.at; part = cover.part; there = cover.there; among = cover.among; kept = next_kept cover.at cover.part cover.there cover.kept };
  members = right.members;
  listed = right.listed;
  over = right.over;
  lists_made = right.lists_made;
}
  where
    inside : processed < length trail.steps
    inside = slice_get_within trail.steps processed step at

    inside_literals : processed < length (literals trail.steps)
    inside_literals = omega (arith, inside, length-map trail.steps (λ (s : Step). s.literal))

    next_is : get_or (literals trail.steps) processed step.literal ≡ step.literal
    next_is = get_or_from_slice_get (literals trail.steps) processed step.literal step.literal (slice_get-map (λ (s : Step). s.literal) trail.steps processed ∙ ap (option_map (λ (s : Step). s.literal)) at)

    watches_it : (l : SatLit) → negated l ≡ step.literal → l ≡ falsified
    watches_it l e = sym (negated-negated l) ∙ ap negated e ∙ sym is

    next_kept : (n : ℕ) (watched : Watched) → slice_get clauses n ≡ Some watched → IsKept trail.starts (literals trail.steps) processed watched.clause watched.first watched.second
        → IsKept trail.starts (literals trail.steps) (processed + 1) watched.clause watched.first watched.second
    next_kept n watched there (inl w) =
        kept_next trail.starts (literals trail.steps) processed watched.clause watched.first watched.second step.literal inside_literals next_is
        (λ e. listed_true trail processed clauses lists falsified n watched right done there w.apart (inl (watches_it watched.first e)))
        (λ e. listed_true trail processed clauses lists falsified n watched right done there w.apart (inr (watches_it watched.second e)))
        (inl w)
    next_kept n watched there (inr r) = inr r

-- 6. There are at most as many true literals as variables

apart_numbers : (v : Var) (some : List SatLit) → mentions_variable some v ≡ false → AllByRecursion (λ y. eqb v.0 y ≡ false) (map (λ (l : SatLit). l.var.0) some)
apart_numbers v [] h = tt
apart_numbers v (l ∷ some) h =
    let parts = or_parts (same_var v l.var) (mentions_variable some v) h in
    (parts.0, apart_numbers v some parts.1)

numbers_distinct : (some : List SatLit) → HoldsNoVariableTwice some → IsDistinct eqb (map (λ (l : SatLit). l.var.0) some)
unfolding IsDistinct
numbers_distinct [] once = tt
numbers_distinct (l ∷ some) once = (apart_numbers l.var some once.0, numbers_distinct some once.1)

numbers_below : (n : ℕ) (some : List SatLit) → IsOver n some → (q : ℕ) → list_any (eqb q) (map (λ (l : SatLit). l.var.0) some) ≡ true → q < n
numbers_below n [] over q h = absurd (false≢true h)
numbers_below n (l ∷ some) over q h =
    elim (or_cases (eqb q l.var.0) (list_any (eqb q) (map (λ (k : SatLit). k.var.0) some)) h) [
      | inl here ↦
          let same : q ≡ l.var.0 = eqb-true q l.var.0 here in
          let first : l.var.0 < n = All-head (λ (k : SatLit). k.var.0 < n) l some over in
          omega arith
      | inr later ↦ numbers_below n some (All-tail (λ (k : SatLit). k.var.0 < n) l some over) q later
    ]

pub trail_short : (n : ℕ) (some : List SatLit) → HoldsNoVariableTwice some → IsOver n some → length some ≤ n
trail_short n some once over =
    let counted : length (map (λ (l : SatLit). l.var.0) some) ≤ n = length-le_from_distinct_below (map (λ (l : SatLit). l.var.0) some) n (numbers_distinct some once) (numbers_below n some over) in
    omega (arith, length-map some (λ (l : SatLit). l.var.0))

-- 7. Steps of `propagate`

pub next_falsified : (steps : List Step) (i : ℕ) (step : Step) (falsified : SatLit) → slice_get steps i ≡ Some step → falsified ≡ negated step.literal
    → holds (literals steps) (negated falsified) ≡ true
next_falsified steps i step falsified at is =
    ap (λ (l : SatLit). holds (literals steps) l) (ap negated is ∙ negated-negated step.literal)
    ∙ held_at (literals steps) i step.literal (slice_get-map (λ (s : Step). s.literal) steps i ∙ ap (option_map (λ (s : Step). s.literal)) at)

pub next_made : (trail : TrailState) (i : ℕ) (step : Step) (falsified : SatLit) → IsTrail trail → slice_get trail.steps i ≡ Some step → falsified ≡ negated step.literal
    → falsified.var.0 < length trail.phases
next_made trail i step falsified right at is =
    let held = held_at (literals trail.steps) i step.literal (slice_get-map (λ (s : Step). s.literal) trail.steps i ∙ ap (option_map (λ (s : Step). s.literal)) at) in
    subst (λ (l : SatLit). l.var.0 < length trail.phases) (sym is) (All-held (λ (l : SatLit). l.var.0 < length trail.phases) (literals trail.steps) step.literal right.over held)

pub Grew-trans : (a b c : TrailState) (ac bc cc : List Watched) → Grew a ac b bc → Grew b bc c cc → Grew a ac c cc
Grew-trans a b c ac bc cs first second = record {
  more = first.more ++ second.more;
  appended = second.appended ∙ ap (λ (list : List Step). list ++ second.more) first.appended ∙ append_assoc a.steps first.more second.more;
  starts_same = second.starts_same ∙ first.starts_same;
  made_same = second.made_same ∙ first.made_same;
  clauses_same = second.clauses_same ∙ first.clauses_same;
}

pub at_in_longer : (trail after : TrailState) (clauses others : List Watched) (i : ℕ) (step : Step) → Grew trail clauses after others → slice_get trail.steps i ≡ Some step → slice_get after.steps i ≡ Some step
at_in_longer trail after clauses others i step grew at = ap (λ (list : List Step). slice_get list i) grew.appended ∙ slice_get-append trail.steps grew.more i step at

-- 8. A decision, and going back

reason_is_none : (step : Step) (n : ℕ) → step.reason ≡ None → step.reason ≡ Some n → ⊥
reason_is_none step n e f = none_is_no_number n (sym f ∙ e)

pub right_decided : (trail after : TrailState) (processed : ℕ) (clauses : List Watched) (lists : WatchTable) (l : SatLit)
    → after.steps ≡ trail.steps ++ record { literal = l; reason = None } ∷ [] → after.starts ≡ trail.starts ++ length trail.steps ∷ [] → length after.phases ≡ length trail.phases
    → processed ≡ length trail.steps → IsPropagator trail processed clauses lists → IsPropagator after processed clauses lists
right_decided trail after processed clauses lists l steps starts made whole right =
    subst (λ (list : List ℕ). IsPropagator (record { steps = after.steps; starts = list; phases = after.phases }) processed clauses lists) (sym starts)
    (subst (λ (list : List Step). IsPropagator (record { steps = list; starts = trail.starts ++ length trail.steps ∷ []; phases = after.phases }) processed clauses lists) (sym steps) decided)
  where
    last : Step
    last = record { literal = l; reason = None }

    reasoned : (i : ℕ) (step : Step) → slice_get (trail.steps ++ record { literal = l; reason = None } ∷ []) i ≡ Some step
        → IsReasoned clauses (record { steps = trail.steps ++ record { literal = l; reason = None } ∷ []; starts = trail.starts ++ length trail.steps ∷ []; phases = after.phases }) i step
    reasoned i step at =
        elim (step_cases trail.steps (record { literal = l; reason = None }) i step at) [
          | inl before ↦
              let r = right.reasoned i step before.1 in
              let short : i ≤ length trail.steps = let below = before.0 in omega arith in
              record {
                decided = λ e. Contains-append_left trail.starts (length trail.steps ∷ []) i (r.decided e);
                forced = λ k e.
                    let u = r.forced k e in
                    (u.0, u.1, subst (λ (earlier : List SatLit). IsUnitClause earlier u.0.clause step.literal) (sym (take_literals trail.steps (record { literal = l; reason = None }) i short)) u.2);
              }
          | inr end ↦ record {
            decided = λ e. subst (λ (n : ℕ). Contains (trail.starts ++ length trail.steps ∷ []) n) (sym end.0) (Contains-push trail.starts (length trail.steps));
            forced = λ k e. absurd (reason_is_none step k (ap (λ (s : Step). s.reason) (sym end.1)) e);
          }
        ]

    kept : (watched : Watched) → IsKept trail.starts (literals trail.steps) processed watched.clause watched.first watched.second
        → IsKept (trail.starts ++ length trail.steps ∷ []) (literals (trail.steps ++ record { literal = l; reason = None } ∷ [])) processed watched.clause watched.first watched.second
    kept watched was_kept =
        let same_length : length (literals trail.steps) ≡ length trail.steps = length-map trail.steps (λ (s : Step). s.literal) in
        let all : processed ≡ length (literals trail.steps) = whole ∙ sym same_length in
        let started = kept_start trail.starts (literals trail.steps) watched.clause watched.first watched.second
        (subst (λ (q : ℕ). IsKept trail.starts (literals trail.steps) q watched.clause watched.first watched.second) all was_kept) in
        let within : AreWithin (trail.starts ++ length (literals trail.steps) ∷ []) (length (literals trail.steps)) = λ s there. elim (Contains-push_cases trail.starts (length (literals trail.steps)) s there) [
          | inl before ↦ starts_within trail processed right.started right.processed_within s before
          | inr here ↦ omega arith
        ] in
        let pushed = kept_push (trail.starts ++ length (literals trail.steps) ∷ []) (literals trail.steps) (length (literals trail.steps)) watched.clause watched.first watched.second l within (omega arith) started in
        subst (λ (q : ℕ). IsKept (trail.starts ++ length trail.steps ∷ []) (literals (trail.steps ++ record { literal = l; reason = None } ∷ [])) q watched.clause watched.first watched.second) (sym all)
        (subst (λ (some : List SatLit). IsKept (trail.starts ++ length trail.steps ∷ []) some (length (literals trail.steps)) watched.clause watched.first watched.second) (sym (literals-push trail.steps (record { literal = l; reason = None })))
        (subst (λ (n : ℕ). IsKept (trail.starts ++ n ∷ []) (literals trail.steps ++ l ∷ []) (length (literals trail.steps)) watched.clause watched.first watched.second) same_length pushed))

    decided : IsPropagator (record { steps = trail.steps ++ record { literal = l; reason = None } ∷ []; starts = trail.starts ++ length trail.steps ∷ []; phases = after.phases }) processed clauses lists
    decided = record {
      reasoned = reasoned;
      started = All-push (λ (s : ℕ). s ≤ processed) trail.starts (length trail.steps) right.started (omega (arith, whole));
      processed_within = omega (arith, right.processed_within, length-append trail.steps (record { literal = l; reason = None } ∷ []));
      covered = λ n watched at.
          let cover = right.covered n watched at in
          record { at = cover.at; part = cover.part; there = cover.there; among = cover.among; kept = kept cover.part cover.kept };
      members = right.members;
      listed = right.listed;
      over = λ k other at. subst (λ (m : ℕ). IsOver m other.clause) (sym made) (right.over k other at);
      lists_made = omega (arith, made, right.lists_made);
    }
