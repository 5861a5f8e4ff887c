-- The visit of one entry of the list of a literal that became false.
use Rattle.std.proofs.Common.{◌≡◌, ◌≢◌, inl, inr, ◌<◌, ◌≤◌, ◌+◌, ◌*◌, ℕ, true, false, List, [], ◌∷◌, ◌++◌, Some, length, set, sym, ap, ◌∙◌, subst, arith, length-set}
use Rattle.std.specs.Prelude.{if◌then◌else◌}
use Rattle.std.specs.List.{slice_get, swap_remove}
use Rattle.std.proofs.lemmas.Bool.{false≢true, cases_Bool, or_left, or_right, false_from_ne_true}
use Rattle.std.proofs.lemmas.List.{map-append, get_or-set_same, get_or-set_other}
use Rattle.std.proofs.lemmas.Option.{slice_get_within, same_Some}
use Rattle.sat_base.specs.declared.literal.SatLit.{SatLit}
use Rattle.sat_base.specs.Literal.{negated, same_literal, holds}
use Rattle.sat_base.proofs.LiteralLaws.{same_literal-true, same_literal-refl, holds-append, All-held}
use Rattle.sat_log.specs.Propagation.{IsUnitClause}
use Rattle.sat_laws.specs.Internal.Complete.{satisfies}
use Rattle.sat_laws.specs.Internal.Packing.{packed, unpacked}
use Rattle.sat_laws.proofs.PackingLaws.{unpacked-packed}
use Rattle.sat_laws.proofs.CompleteLaws.{satisfied_by}
use Rattle.sat_propagate.specs.Internal.Trail.{TrailState, literals}
use Rattle.sat_propagate.specs.Internal.WatchLists.{WatchTable, watchers, with_entries}
use Rattle.sat_propagate.specs.Internal.Propagator.{IsPair, Watches, IsPropagator, AreEntriesDone, Enlists, Rewatched, Moves}
use Rattle.sat_propagate.specs.Internal.Finding.{FindsOther, FindsUnit}
use Rattle.sat_propagate.specs.declared.trail.Step.{Step}
use Rattle.sat_propagate.specs.declared.watch_lists.Watch.{Watch}
use Rattle.sat_propagate.specs.Internal.ClauseTable.{Watched}
use Rattle.sat_propagate.proofs.ListLaws.{get-set_same, length-swap_remove}
use Rattle.sat_propagate.proofs.TableLaws.{number_below}
use Rattle.sat_propagate.proofs.PropagatorLaws.{if_true, if_false, right_removed, right_written, done_removed, done_written, done_more, done_by_blocker, done_longer, right_rewatched, done_rewatched, distinct_from, watches_pair, IsFresh}

-- a variable of a clause is made
pub var_made : (trail : TrailState) (processed : ℕ) (clauses : List Watched) (lists : WatchTable) (n : ℕ) (watched : Watched) (l : SatLit) → IsPropagator trail processed clauses lists
    → slice_get clauses n ≡ Some watched → holds watched.clause l ≡ true → l.var.0 < length trail.phases
var_made trail processed clauses lists n watched l right at member = All-held (λ (m : SatLit). m.var.0 < length trail.phases) watched.clause l (right.over n watched at) member

-- a watched literal is in the clause
pub member_in : (trail : TrailState) (processed : ℕ) (clauses : List Watched) (lists : WatchTable) (n : ℕ) (watched : Watched) (l : SatLit) → IsPropagator trail processed clauses lists
    → slice_get clauses n ≡ Some watched → Watches watched l → holds watched.clause l ≡ true
member_in trail processed clauses lists n watched l right at watches =
    let both = right.members n watched at in
    elim watches [
      | inl first ↦ ap (holds watched.clause) (sym first) ∙ both.0
      | inr second ↦ ap (holds watched.clause) (sym second) ∙ both.1
    ]

-- the entries of a literal where others stand in their place, and those of another literal
pub number_inside : (trail : TrailState) (lists : WatchTable) (l : SatLit) (entries : List Watch) → l.var.0 < length trail.phases → length trail.phases * 2 ≤ length (with_entries lists l entries)
    → packed l < length lists
number_inside trail lists l entries made room = omega (arith, made, room, number_below l, length-set lists (packed l) entries)

pub entries_here : (lists : WatchTable) (l : SatLit) (entries : List Watch) → packed l < length lists → watchers (with_entries lists l entries) l ≡ entries
entries_here lists l entries inside = get_or-set_same lists (packed l) entries [] inside

entries_elsewhere : (lists : WatchTable) (l m : SatLit) (entries : List Watch) → same_literal l m ≡ false → watchers (with_entries lists l entries) m ≡ watchers lists m
entries_elsewhere lists l m entries apart =
    get_or-set_other lists (packed l) (packed m) entries [] (λ e. false≢true (sym apart ∙ subst (λ (k : SatLit). same_literal l k ≡ true) (packed_same (sym e)) (same_literal-refl l)))
  where
    packed_same : packed l ≡ packed m → l ≡ m
    packed_same e = sym (unpacked-packed l) ∙ ap unpacked e ∙ unpacked-packed m

-- a change of the entries that stand there is one of the lists
entries_changed : (change : List Watch → List Watch) (lists : WatchTable) (l : SatLit) (entries : List Watch) → packed l < length lists
    → (m : SatLit) → watchers (with_entries lists l (change entries)) m ≡ (if same_literal l m then change (watchers (with_entries lists l entries) m) else watchers (with_entries lists l entries) m)
entries_changed change lists l entries inside m =
    elim (cases_Bool (same_literal l m)) [
      | inl same ↦ subst (λ (k : SatLit). watchers (with_entries lists l (change entries)) k ≡ (if same_literal l k then change (watchers (with_entries lists l entries) k) else watchers (with_entries lists l entries) k))
          (same_literal-true l m same)
          (entries_here lists l (change entries) inside ∙ sym (if_true (same_literal l l) _ _ (same_literal-refl l) ∙ ap change (entries_here lists l entries inside)))
      | inr apart ↦ entries_elsewhere lists l m (change entries) apart ∙ sym (if_false (same_literal l m) _ _ apart ∙ entries_elsewhere lists l m entries apart)
    ]

same_made : (lists : WatchTable) (l : SatLit) (some others : List Watch) → length (with_entries lists l some) ≡ length (with_entries lists l others)
same_made lists l some others = length-set lists (packed l) some ∙ sym (length-set lists (packed l) others)

entry_here : (lists : WatchTable) (l : SatLit) (entries : List Watch) (i : ℕ) (entry : Watch) → packed l < length lists → slice_get entries i ≡ Some entry
    → slice_get (watchers (with_entries lists l entries) l) i ≡ Some entry
entry_here lists l entries i entry inside there = ap (λ (some : List Watch). slice_get some i) (entries_here lists l entries inside) ∙ there

-- an entry is taken out of those of a literal
pub right_taken : (trail : TrailState) (processed : ℕ) (clauses : List Watched) (lists : WatchTable) (from : SatLit) (entries : List Watch) (i : ℕ) (entry : Watch)
    → packed from < length lists → slice_get entries i ≡ Some entry → ((watched : Watched) → slice_get clauses entry.clause ≡ Some watched → watched.first ≢ watched.second → Watches watched from → ⊥)
    → IsPropagator trail processed clauses (with_entries lists from entries) → IsPropagator trail processed clauses (with_entries lists from (swap_remove entries i entry))
right_taken trail processed clauses lists from entries i entry inside there idle right =
    let here = entry_here lists from entries i entry inside there in
    right_removed trail processed clauses (with_entries lists from entries) (with_entries lists from (swap_remove entries i entry)) from i entry
    (slice_get_within (watchers (with_entries lists from entries) from) i entry here) here idle
    (entries_changed (λ (some : List Watch). swap_remove some i entry) lists from entries inside) (same_made lists from _ entries) right

-- an entry is put in the place of another one of its clause
pub right_replaced : (trail : TrailState) (processed : ℕ) (clauses : List Watched) (lists : WatchTable) (from : SatLit) (entries : List Watch) (i : ℕ) (old entry : Watch)
    → packed from < length lists → slice_get entries i ≡ Some old → old.clause ≡ entry.clause → ((watched : Watched) → slice_get clauses entry.clause ≡ Some watched → holds watched.clause entry.blocker ≡ true)
    → IsPropagator trail processed clauses (with_entries lists from entries) → IsPropagator trail processed clauses (with_entries lists from (set entries i entry))
right_replaced trail processed clauses lists from entries i old entry inside there same_clause blocks right =
    let here = entry_here lists from entries i old inside there in
    right_written trail processed clauses (with_entries lists from entries) (with_entries lists from (set entries i entry)) from i old entry
    (slice_get_within (watchers (with_entries lists from entries) from) i old here) here same_clause blocks
    (entries_changed (λ (some : List Watch). set some i entry) lists from entries inside) (same_made lists from _ entries) right

-- a satisfied clause gets its true literal as blocker
pub next_written : (trail : TrailState) (clauses : List Watched) (from : SatLit) (entries : List Watch) (i : ℕ) (entry : Watch) → i < length entries
    → holds (literals trail.steps) entry.blocker ≡ true → AreEntriesDone trail clauses from entries i → AreEntriesDone trail clauses from (set entries i entry) (i + 1)
next_written trail clauses from entries i entry inside blocked done =
    done_more trail clauses from (set entries i entry) i entry (get-set_same entries i entry inside)
    (done_by_blocker trail clauses from entry blocked)
    (done_written trail clauses from entries i entry done)

-- what `look_at` found as the only open literal follows
pub found_unit : (trail : TrailState) (processed : ℕ) (clauses : List Watched) (lists : WatchTable) (n : ℕ) (from l : SatLit) → IsPropagator trail processed clauses lists
    → holds (literals trail.steps) (negated from) ≡ true → (found : FindsUnit (literals trail.steps) (slice_get clauses n) from l) → IsUnitClause (literals trail.steps) found.watched.clause l
found_unit trail processed clauses lists n from l right falsified found = record {
  member = member_in trail processed clauses lists n found.watched l right found.there found.named;
  still_open = found.undenied;
  others = λ m h apart. elim (cases_Bool (same_literal m from)) [
    | inl same ↦ ap (λ (k : SatLit). holds (literals trail.steps) (negated k)) (same_literal-true m from same) ∙ falsified
    | inr other ↦ found.rest m h (λ e. false≢true (sym other ∙ subst (λ (k : SatLit). same_literal m k ≡ true) e (same_literal-refl m))) apart
  ];
}

-- and the entry is done then
pub next_assigned : (trail after : TrailState) (clauses : List Watched) (from l : SatLit) (entries : List Watch) (i : ℕ) (entry : Watch) (watched : Watched) (step : Step)
    → after.steps ≡ trail.steps ++ step ∷ [] → step.literal ≡ l → slice_get entries i ≡ Some entry → slice_get clauses entry.clause ≡ Some watched → holds watched.clause l ≡ true
    → AreEntriesDone trail clauses from entries i → AreEntriesDone after clauses from entries (i + 1)
next_assigned trail after clauses from l entries i entry watched step steps is there at member done =
    done_more after clauses from entries i entry there
    (λ other other_at watches blocks.
    subst (λ (w : Watched). satisfies (literals after.steps) w.clause ≡ true) (same_Some _ _ (sym at ∙ other_at))
    (satisfied_by (literals after.steps) watched.clause l member now_true))
    (done_longer trail (step ∷ []) after clauses from entries i steps done)
  where
    now_true : holds (literals after.steps) l ≡ true
    now_true =
        ap (λ (list : List Step). holds (literals list) l) steps
        ∙ ap (λ (list : List SatLit). holds list l) (map-append (λ (s : Step). s.literal) trail.steps (step ∷ []))
        ∙ holds-append (literals trail.steps) (step.literal ∷ []) l
        ∙ or_right (holds (literals trail.steps) l) _ (or_left _ _ (ap (same_literal l) is ∙ same_literal-refl l))

-- the literal that is watched in place of another is fresh
pub found_fresh : (trail : TrailState) (clauses after : List Watched) (n : ℕ) (from to other : SatLit) (found : FindsOther (literals trail.steps) (slice_get clauses n) from to)
    (changed : Rewatched clauses after n from to other) → IsFresh trail changed.old.clause from to other
found_fresh trail clauses after n from to other found changed = record {
  member = subst (λ (w : Watched). holds w.clause to ≡ true) same found.member;
  new = found.new;
  apart = λ e. found.apart (e ∙ pair_unique found.watched from other found.other (subst (λ (w : Watched). IsPair w from other) (sym same) changed.pair_before) found.paired);
  undenied = found.undenied;
}
  where
    same : found.watched ≡ changed.old
    same = same_Some _ _ (sym found.there ∙ changed.was)

    pair_unique : (watched : Watched) (l a b : SatLit) → IsPair watched l a → IsPair watched l b → a ≡ b
    pair_unique watched l a b (inl p) (inl q) = sym p.1 ∙ q.1
    pair_unique watched l a b (inl p) (inr q) = sym p.1 ∙ q.0 ∙ sym p.0 ∙ q.1
    pair_unique watched l a b (inr p) (inl q) = sym p.1 ∙ q.0 ∙ sym p.0 ∙ q.1
    pair_unique watched l a b (inr p) (inr q) = sym p.1 ∙ q.1

pub apart_of : (before after : List Watched) (n : ℕ) (from to other : SatLit) (changed : Rewatched before after n from to other) → changed.old.first ≢ changed.old.second → from ≢ other
apart_of before after n from to other changed distinct = distinct_from changed.old from other changed.pair_before distinct

-- from the watched literals that a clause has after the change, the one that became false is gone
pub idle_after : (trail : TrailState) (before after : List Watched) (n : ℕ) (from to other : SatLit) (changed : Rewatched before after n from to other)
    → IsFresh trail changed.old.clause from to other → changed.old.first ≢ changed.old.second → (watched : Watched) → slice_get after n ≡ Some watched → Watches watched from → ⊥
idle_after trail before after n from to other changed fresh distinct watched at watches =
    let same : changed.new ≡ watched = same_Some _ _ (sym changed.is ∙ at) in
    elim (watches_pair changed.new to other from changed.pair_after (subst (λ (w : Watched). Watches w from) (sym same) watches)) [
      | inl is_to ↦ fresh.new (sym is_to)
      | inr is_other ↦ apart_of before after n from to other changed distinct is_other
    ]

-- a clause watches another literal while entries stand in the place of those of the old one
moves_beside : (before after : List Watched) (lists more : WatchTable) (n : ℕ) (from to : SatLit) (entries : List Watch) → packed from < length lists → same_literal to from ≡ false
    → Moves before after lists more n from to → Moves before after (with_entries lists from entries) (with_entries more from entries) n from to
moves_beside before after lists more n from to entries inside apart moves = record {
  other = moves.other;
  changed = moves.changed;
  enlists = enlists;
  made = length-set more (packed from) entries ∙ moves.made ∙ sym (length-set lists (packed from) entries);
}
  where
    entry : Watch
    entry = record { clause = n; blocker = moves.other }

    inside_more : packed from < length more
    inside_more = omega (arith, inside, moves.made)

    enlists : Enlists (with_entries lists from entries) (with_entries more from entries) to (record { clause = n; blocker = moves.other })
    enlists m = elim (cases_Bool (same_literal from m)) [
      | inl same ↦ subst (λ (k : SatLit). watchers (with_entries more from entries) k ≡ (if same_literal to k then watchers (with_entries lists from entries) k ++ entry ∷ [] else watchers (with_entries lists from entries) k))
          (same_literal-true from m same)
          (entries_here more from entries inside_more ∙ sym (if_false (same_literal to from) _ _ apart ∙ entries_here lists from entries inside))
      | inr other ↦ entries_elsewhere more from m entries other ∙ moves.enlists m
          ∙ ap (λ (some : List Watch). if same_literal to m then some ++ entry ∷ [] else some) (sym (entries_elsewhere lists from m entries other))
    ]

-- a clause watches another literal, and its entry is taken out of those of the old one
pub right_moved : (trail : TrailState) (processed : ℕ) (before after : List Watched) (lists more : WatchTable) (n : ℕ) (from to : SatLit) (entries : List Watch) (i : ℕ) (entry : Watch)
    → IsPropagator trail processed before (with_entries lists from entries) → packed from < length lists → (found : FindsOther (literals trail.steps) (slice_get before n) from to)
    → (moves : Moves before after lists more n from to) → slice_get entries i ≡ Some entry → entry.clause ≡ n
    → IsPropagator trail processed after (with_entries more from (swap_remove entries i entry))
    × (AreEntriesDone trail before from entries i → AreEntriesDone trail after from (swap_remove entries i entry) i)
    × (length (swap_remove entries i entry) + 1 ≡ length entries)
unfolding moves_beside
right_moved trail processed before after lists more n from to entries i entry right inside found moves there named = (
  right_taken trail processed after more from entries i entry inside_more there
      (λ watched at apart watches. idle_after trail before after n from to moves.other moves.changed fresh distinct watched (ap (slice_get after) (sym named) ∙ at) watches)
      (right_rewatched trail processed before after (with_entries lists from entries) (with_entries more from entries) n from to moves.other moves.changed beside.enlists beside.made fresh distinct right),
  λ done. done_removed trail after from entries i entry within
      (done_rewatched trail before after entries n from to moves.other moves.changed found.new
      (apart_of before after n from to moves.other moves.changed distinct) i done),
  length-swap_remove entries i entry within,
)
  where
    fresh : IsFresh trail moves.changed.old.clause from to moves.other
    fresh = found_fresh trail before after n from to moves.other found moves.changed

    distinct : moves.changed.old.first ≢ moves.changed.old.second
    distinct = subst (λ (w : Watched). w.first ≢ w.second) (same_Some _ _ (sym found.there ∙ moves.changed.was)) found.distinct

    beside : Moves before after (with_entries lists from entries) (with_entries more from entries) n from to
    beside = moves_beside before after lists more n from to entries inside (false_from_ne_true (same_literal to from) (λ t. found.new (same_literal-true to from t))) moves

    inside_more : packed from < length more
    inside_more = omega (arith, inside, moves.made)

    within : i < length entries
    within = slice_get_within entries i entry there

-- what is true stays so where the trail grows
pub held_longer : (steps more after : List Step) (l : SatLit) → after ≡ steps ++ more → holds (literals steps) l ≡ true → holds (literals after) l ≡ true
held_longer steps more after l is h =
    ap (λ (list : List Step). holds (literals list) l) is
    ∙ ap (λ (some : List SatLit). holds some l) (map-append (λ (s : Step). s.literal) steps more)
    ∙ holds-append (literals steps) (literals more) l ∙ or_left _ _ h
