-- What keeps a propagator right where a clause is inserted.
use Rattle.std.proofs.Common.{◌≡◌, ◌≢◌, ◌⊎◌, inl, inr, ◌<◌, ◌≤◌, ◌+◌, ◌-◌, ◌*◌, ℕ, zero, suc, true, false, List, [], ◌∷◌, ◌++◌, Option, Some, None, length, take, get_or, refl, sym, ap, ◌∙◌, subst, arith, length-append}
use Rattle.std.specs.List.{Contains, slice_get}
use Rattle.std.proofs.lemmas.Bool.{false≢true, or_left, or_right, cases_Bool, cases_order, false_from_ne_true}
use Rattle.std.proofs.lemmas.List.{take-take, take_all, length-map, get_or-take, length-take-le}
use Rattle.std.proofs.lemmas.List.Elements.{All-weaker}
use Rattle.std.proofs.lemmas.Option.{slice_get_cases, same_Some, slice_get_within, get_or_from_slice_get}
use Rattle.sat_base.specs.declared.literal.Var.{Var}
use Rattle.sat_base.specs.declared.literal.SatLit.{SatLit}
use Rattle.sat_base.specs.Literal.{negated, same_literal, holds, mentions_variable, IsOver}
use Rattle.sat_base.proofs.LiteralLaws.{holds-append, same_literal-true, same_literal-refl, mentions-held, All-held, All-from_held}
use Rattle.sat_log.specs.Propagation.{IsUnitClause, IsFalseIn}
use Rattle.sat_log.proofs.ChainLaws.{slice_get-append, slice_get-before, slice_get-seam}
use Rattle.sat_laws.specs.Internal.Watching.{IsKept, IsGuarded}
use Rattle.sat_laws.proofs.CompleteLaws.{satisfied_by}
use Rattle.sat_laws.proofs.WatchLaws.{held-take, kept_push}
use Rattle.sat_laws.proofs.AnalysisLaws.{place_below, held_below}
use Rattle.sat_propagate.specs.Internal.Trail.{TrailState, literals, IsTrail}
use Rattle.sat_laws.specs.Internal.Packing.{packed}
use Rattle.sat_propagate.specs.Internal.WatchLists.{WatchTable, NamesWatches, watchers}
use Rattle.sat_propagate.specs.Internal.Propagator.{IsPropagator, IsCovered, Watches, Enlists}
use Rattle.sat_propagate.specs.Internal.Insertion.{IsSooner, IsRank, IsBest, IsUnseen}
use Rattle.sat_propagate.specs.declared.trail.Step.{Step}
use Rattle.sat_propagate.specs.declared.watch_lists.Watch.{Watch}
use Rattle.sat_propagate.specs.Internal.ClauseTable.{Watched}
use Rattle.sat_propagate.proofs.ListLaws.{held_more, unmentioned, no_literal, get-past_seam}
use Rattle.sat_propagate.proofs.TableLaws.{take_literals_is, get_or-any, get_or-defaults}
use Rattle.sat_propagate.proofs.PropagatorLaws.{names_longer, names_new, reasoned_longer, starts_within, literals-push}

-- 1. Ranks

whole_is : (trail : List SatLit) (l : SatLit) → holds trail l ≡ true → holds (take (length trail) trail) l ≡ true
whole_is trail l h = ap (λ (some : List SatLit). holds some l) (take_all (length trail) trail (omega arith)) ∙ h

-- the step at a place of the literals
step_at : (steps : List Step) (i : ℕ) (l : SatLit) → slice_get (literals steps) i ≡ Some l → (step : Step) × (slice_get steps i ≡ Some step) × (step.literal ≡ l)
step_at [] i l at = absurd (cc)
step_at (s ∷ steps) zero l at = (s, refl, same_Some s.literal l at)
step_at (s ∷ steps) (suc i) l at = step_at steps i l at

abbrev pub IsPlace : List Step → Var → ℕ → Type 0
IsPlace steps v place = (i : ℕ) (step : Step) → slice_get steps i ≡ Some step → step.literal.var ≡ v → place ≡ i

place_is : (steps : List Step) (l : SatLit) (place i : ℕ) → IsPlace steps l.var place → slice_get (literals steps) i ≡ Some (negated l) → place ≡ i
place_is steps l place i is at =
    let found = step_at steps i (negated l) at in
    is i found.0 found.1 (ap (λ (k : SatLit). k.var) found.2)

pub rank_of_place : (steps : List Step) (l : SatLit) (place : ℕ) → holds (literals steps) (negated l) ≡ true → IsPlace steps l.var place → IsRank (literals steps) l place
rank_of_place steps l place denied is = record {
  before = λ s h.
      let found = place_below (literals steps) s (negated l) h in
      let early : found.0 < s = found.1 in
      let same : place ≡ found.0 = place_is steps l place found.0 is found.2 in
      omega arith;
  after = λ inside s h.
      let found = place_below (literals steps) (length (literals steps)) (negated l) (whole_is (literals steps) (negated l) denied) in
      let same : place ≡ found.0 = place_is steps l place found.0 is found.2 in
      let early : found.0 < s = omega arith in
      held_below (literals steps) s found.0 (negated l) early found.2;
}

pub rank_of_end : (steps : List Step) (l : SatLit) (rank : ℕ) → holds (literals steps) (negated l) ≡ false → rank ≡ length steps → IsRank (literals steps) l rank
rank_of_end steps l rank undenied is = record {
  before = λ s h. absurd (false≢true (sym undenied ∙ held-take s (literals steps) (negated l) h));
  after = λ inside s h. absurd (omega (arith, inside, is, length-map steps (λ (s : Step). s.literal)));
}

pub denied_mentioned : (some : List SatLit) (l : SatLit) → holds some (negated l) ≡ true → mentions_variable some l.var ≡ true
denied_mentioned some l h = mentions-held some (negated l) h

pub sooner_by_rank : (trail : List SatLit) (m l : SatLit) (a b : ℕ) → IsRank trail m a → IsRank trail l b → a ≤ b → IsSooner trail m l
sooner_by_rank trail m l a b rank_m rank_l less s h =
    let below : b < s = rank_l.before s h in
    let inside : b < length trail = rank_l.before (length trail) (whole_is trail (negated l) (held-take s trail (negated l) h)) in
    rank_m.after (omega arith) s (omega arith)

-- 2. The best of the first literals of a clause

pub record IsBestSoFar (trail among : List SatLit) (other best : Option SatLit) (i : ℕ) : Type 0 where
  pub member : (b : SatLit) → best ≡ Some b → (holds among b ≡ true) × (other ≢ Some b)
  pub sooner : (b m : SatLit) → best ≡ Some b → holds (take i among) m ≡ true → other ≢ Some m → IsSooner trail m b
  pub none : best ≡ None → (m : SatLit) → holds (take i among) m ≡ true → other ≢ Some m → ⊥

none_is_not : (b : SatLit) → None ≡ Some b → ⊥
none_is_not b e = cc

some_is_not : (b : SatLit) → Some b ≡ None → ⊥
some_is_not b e = cc

pub best_start : (trail among : List SatLit) (other : Option SatLit) → IsBestSoFar trail among other None 0
best_start trail among other = record {
  member = λ b e. absurd (none_is_not b e);
  sooner = λ b m e h new. absurd (none_is_not b e);
  none = λ e m h new. false≢true h;
}

held_at_index : (xs : List SatLit) (i : ℕ) (d : SatLit) → i < length xs → holds xs (get_or xs i d) ≡ true
held_at_index xs i d inside =
    elim ((slice_get_cases xs i).1) [
      | inl found ↦
          let same : get_or xs i d ≡ found.0 = get_or_from_slice_get xs i found.0 d found.2 in
          subst (λ (l : SatLit). holds xs l ≡ true) (sym same) (held-take (i + 1) xs found.0 (held_below xs (i + 1) i found.0 (omega arith) found.2))
      | inr past ↦ let long = past.0 in absurd (omega arith)
    ]

pub best_taken : (trail among : List SatLit) (other best : Option SatLit) (i : ℕ) (literal : SatLit) → IsBestSoFar trail among other best i → i < length among → literal ≡ get_or among i no_literal
    → other ≢ Some literal → ((t : SatLit) → best ≡ Some t → IsSooner trail t literal) → IsBestSoFar trail among other (Some literal) (i + 1)
best_taken trail among other best i literal before inside is new better = record {
  member = λ b e.
      let same : literal ≡ b = same_Some literal b e in
      (subst (λ (l : SatLit). holds among l ≡ true) (sym is ∙ same) (held_at_index among i no_literal inside), subst (λ (l : SatLit). other ≢ Some l) same new);
  sooner = λ b m e h apart.
      let same : literal ≡ b = same_Some literal b e in
      subst (IsSooner trail m) same (elim (held_more among i no_literal m inside h) [
        | inl earlier ↦ by_earlier best before.sooner before.none better m earlier apart
        | inr here ↦ subst (λ (k : SatLit). IsSooner trail k literal) (is ∙ sym here) (λ s t. t)
      ]);
  none = λ e m h apart. some_is_not literal e;
}
  where
    by_earlier : (best : Option SatLit) → ((b m : SatLit) → best ≡ Some b → holds (take i among) m ≡ true → other ≢ Some m → IsSooner trail m b)
        → (best ≡ None → (m : SatLit) → holds (take i among) m ≡ true → other ≢ Some m → ⊥) → ((t : SatLit) → best ≡ Some t → IsSooner trail t literal)
        → (m : SatLit) → holds (take i among) m ≡ true → other ≢ Some m → IsSooner trail m literal
    by_earlier None sooner none better m h apart = absurd (none refl m h apart)
    by_earlier (Some t) sooner none better m h apart = λ s held. sooner t m refl h apart s (better t refl s held)

pub best_left : (trail among : List SatLit) (other best : Option SatLit) (i : ℕ) (literal : SatLit) → IsBestSoFar trail among other best i → i < length among → literal ≡ get_or among i no_literal
    → (other ≢ Some literal → (t : SatLit) × (best ≡ Some t) × IsSooner trail literal t) → IsBestSoFar trail among other best (i + 1)
best_left trail among other best i literal before inside is worse = record {
  member = before.member;
  sooner = λ b m e h apart. elim (held_more among i no_literal m inside h) [
    | inl earlier ↦ before.sooner b m e earlier apart
    | inr here ↦
        let same : literal ≡ m = is ∙ sym here in
        let found = worse (subst (λ (k : SatLit). other ≢ Some k) (sym same) apart) in
        subst (λ (k : SatLit). IsSooner trail k b) same (subst (IsSooner trail literal) (same_Some found.0 b (sym found.1 ∙ e)) found.2)
  ];
  none = λ e m h apart. elim (held_more among i no_literal m inside h) [
    | inl earlier ↦ before.none e m earlier apart
    | inr here ↦
        let same : literal ≡ m = is ∙ sym here in
        let found = worse (subst (λ (k : SatLit). other ≢ Some k) (sym same) apart) in
        some_is_not found.0 (sym found.1 ∙ e)
  ];
}

all_taken : (among : List SatLit) (i : ℕ) (m : SatLit) → length among ≤ i → holds among m ≡ true → holds (take i among) m ≡ true
all_taken among i m past h = ap (λ (some : List SatLit). holds some m) (take_all i among past) ∙ h

pub best_some : (trail among : List SatLit) (other : Option SatLit) (i : ℕ) (b : SatLit) → length among ≤ i → IsBestSoFar trail among other (Some b) i → IsBest trail among other b
best_some trail among other i b past so_far = record {
  member = (so_far.member b refl).0;
  new = (so_far.member b refl).1;
  sooner = λ m h apart. so_far.sooner b m refl (all_taken among i m past h) apart;
}

some_cases : (other : Option SatLit) (l : SatLit) → (other ≡ Some l) ⊎ (other ≢ Some l)
some_cases None l = inr (none_is_not l)
some_cases (Some o) l = elim (cases_Bool (same_literal o l)) [
  | inl same ↦ inl (ap Some (same_literal-true o l same))
  | inr apart ↦ inr (λ e. false≢true (sym apart ∙ subst (λ (k : SatLit). same_literal o k ≡ true) (same_Some o l e) (same_literal-refl o)))
]

pub best_none : (trail among : List SatLit) (other : Option SatLit) (i : ℕ) → length among ≤ i → IsBestSoFar trail among other None i → (l : SatLit) → holds among l ≡ true → other ≡ Some l
best_none trail among other i past so_far l h = elim (some_cases other l) [
  | inl same ↦ same
  | inr apart ↦ absurd (so_far.none refl l (all_taken among i l past h) apart)
]

-- 3. Going back as far as a clause needs

pub unseen_open : (starts : List ℕ) (trail : List SatLit) (processed : ℕ) (second l : SatLit) → holds trail (negated second) ≡ false → IsSooner trail second l → IsUnseen starts trail processed l
unseen_open starts trail processed second l undenied sooner = record {
  at_decisions = λ s at. never s;
  now = never processed;
}
  where
    never : (s : ℕ) → holds (take s trail) (negated l) ≡ false
    never s = false_from_ne_true (holds (take s trail) (negated l)) (λ h. false≢true (sym undenied ∙ held-take s trail (negated second) (sooner s h)))

pub unseen_back : (trail after : List SatLit) (starts : List ℕ) (processed place : ℕ) (second l : SatLit) → ((s : ℕ) → s ≤ place → take s after ≡ take s trail) → ((s : ℕ) → Contains starts s → s ≤ place)
    → processed ≤ place → IsRank trail second place → IsSooner trail second l → IsUnseen starts after processed l
unseen_back trail after starts processed place second l same started early rank sooner = record {
  at_decisions = λ s at. never s (started s at);
  now = never processed early;
}
  where
    never : (s : ℕ) → s ≤ place → holds (take s after) (negated l) ≡ false
    never s short = false_from_ne_true (holds (take s after) (negated l)) (λ h.
        let later : place < s = rank.before s (sooner s (ap (λ (some : List SatLit). holds some (negated l)) (sym (same s short)) ∙ h)) in
        omega arith)

-- the trail up to a place is the same where it was gone back to a later place, or not at all
pub back_same : (trail after : TrailState) (level place : ℕ) → (level < length trail.starts → after.steps ≡ take (get_or trail.starts level 0) trail.steps) → (length trail.starts ≤ level → after ≡ trail)
    → (level < length trail.starts → place < get_or trail.starts level 0) → (s : ℕ) → s ≤ place → take s (literals after.steps) ≡ take s (literals trail.steps)
back_same trail after level place shorter same later s short =
    elim (cases_order level (length trail.starts)) [
      | inl end ↦ kept (omega arith)
      | inr other ↦ elim other [
        | inl less ↦
            let before : place < get_or trail.starts level 0 = later less in
            ap (λ (steps : List Step). take s (literals steps)) (shorter less)
            ∙ ap (take s) (sym (take_literals_is trail.steps (get_or trail.starts level 0)))
            ∙ take-take s (get_or trail.starts level 0) (literals trail.steps) (omega arith)
        | inr more ↦ kept (omega arith)
      ]
    ]
  where
    kept : length trail.starts ≤ level → take s (literals after.steps) ≡ take s (literals trail.steps)
    kept past = ap (λ (t : TrailState). take s (literals t.steps)) (same past)

-- where one start is not after a place, those before it are not either
pub starts_before : (trail : TrailState) (level start place : ℕ) → IsTrail trail → 0 < level → slice_get trail.starts (level - 1) ≡ Some start → start ≤ place
    → (s : ℕ) → Contains (take level trail.starts) s → s ≤ place
starts_before trail level start place whole some at early s there =
    let i = there.0 in
    let within = there.1 in
    let inside : level - 1 < length trail.starts = slice_get_within trail.starts (level - 1) start at in
    let i_in : i < level = omega (arith, length-take-le level trail.starts (omega arith)) in
    let value : get_or trail.starts i s ≡ s = sym (get_or-take level trail.starts i s i_in) ∙ there.2 in
    let default : get_or trail.starts i s ≡ get_or trail.starts i 0 = get_or-any trail.starts i s 0 (omega arith) in
    let start_is : get_or trail.starts (level - 1) 0 ≡ start = get_or_from_slice_get trail.starts (level - 1) start 0 at in
    elim (cases_order i (level - 1)) [
      | inl same ↦ let e : get_or trail.starts i 0 ≡ get_or trail.starts (level - 1) 0 = ap (λ (k : ℕ). get_or trail.starts k 0) same in omega arith
      | inr other ↦ elim other [
        | inl less ↦ let before = whole.ascending i (level - 1) less inside in omega arith
        | inr more ↦ absurd (omega arith)
      ]
    ]

pub later_start : (starts : List ℕ) (level start place : ℕ) → 0 < level → slice_get starts (level - 1) ≡ Some start → place < start → place < get_or starts (level - 1) 0
later_start starts level start place some at less =
    let start_is : get_or starts (level - 1) 0 ≡ start = get_or_from_slice_get starts (level - 1) start 0 at in
    omega arith

pub right_lowered : (trail : TrailState) (processed fewer : ℕ) (clauses : List Watched) (lists : WatchTable) → fewer ≤ processed → ((s : ℕ) → Contains trail.starts s → s ≤ fewer)
    → IsPropagator trail processed clauses lists → IsPropagator trail fewer clauses lists
right_lowered trail processed fewer clauses lists less started right = record {
  reasoned = right.reasoned;
  started = λ k d h. started (get_or trail.starts k d) (k, h, get_or-any trail.starts k _ d h);
  processed_within = omega (arith, right.processed_within);
  covered = λ n watched at.
      let cover = right.covered n watched at in
      record { at = cover.at; part = cover.part; there = cover.there; among = cover.among; kept = kept_lowered cover.part.clause cover.part.first cover.part.second cover.kept };
  members = right.members;
  listed = right.listed;
  over = right.over;
  lists_made = right.lists_made;
}
  where
    now_before : (l : SatLit) → holds (take fewer (literals trail.steps)) l ≡ true → holds (take processed (literals trail.steps)) l ≡ true
    now_before l h = held-take fewer (take processed (literals trail.steps)) l
        (ap (λ (some : List SatLit). holds some l) (take-take fewer processed (literals trail.steps) less) ∙ h)

    guarded : (clause : List SatLit) (l : SatLit) → IsGuarded trail.starts (literals trail.steps) processed clause l → IsGuarded trail.starts (literals trail.steps) fewer clause l
    guarded clause l g = record { at_decisions = g.at_decisions; now = λ h. g.now (now_before (negated l) h) }

    kept_lowered : (clause : List SatLit) (first second : SatLit) → IsKept trail.starts (literals trail.steps) processed clause first second → IsKept trail.starts (literals trail.steps) fewer clause first second
    kept_lowered clause first second (inl w) = inl (record {
      first_in = w.first_in;
      second_in = w.second_in;
      apart = w.apart;
      first_guarded = guarded clause first w.first_guarded;
      second_guarded = guarded clause second w.second_guarded;
    })
    kept_lowered clause first second (inr r) = inr r

-- 4. One clause more

pub right_enlisted : (trail : TrailState) (processed : ℕ) (clauses : List Watched) (lists more : WatchTable) (l : SatLit) (entry : Watch) → Enlists lists more l entry → length more ≡ length lists
    → IsPropagator trail processed clauses lists → IsPropagator trail processed clauses more
right_enlisted trail processed clauses lists more l entry enlists made right = record {
  reasoned = right.reasoned;
  started = right.started;
  processed_within = right.processed_within;
  covered = right.covered;
  members = right.members;
  listed = λ n watched m at apart watches. names_longer lists more l m entry n watched.clause enlists (right.listed n watched m at apart watches);
  over = right.over;
  lists_made = omega (arith, made, right.lists_made);
}

-- a clause of the longer list is one of the shorter one, or the last
pub clause_cases : (clauses : List Watched) (last : Watched) (n : ℕ) (watched : Watched) → slice_get (clauses ++ last ∷ []) n ≡ Some watched
    → (slice_get clauses n ≡ Some watched) ⊎ ((n ≡ length clauses) × (last ≡ watched))
clause_cases clauses last n watched at =
    elim (cases_order n (length clauses)) [
      | inl end ↦ inr (end, same_Some _ _ (sym (slice_get-seam clauses last) ∙ ap (slice_get (clauses ++ last ∷ [])) (sym end) ∙ at))
      | inr other ↦ elim other [
        | inl before ↦ inl (sym (slice_get-before clauses (last ∷ []) n before) ∙ at)
        | inr after ↦ absurd (get-past_seam clauses last n watched after at)
      ]
    ]

-- what covers a clause does so where there is one more
cover_more : (starts : List ℕ) (trail : List SatLit) (processed : ℕ) (clauses : List Watched) (new : Watched) (clause : List SatLit) → IsCovered starts trail processed clauses clause
    → IsCovered starts trail processed (clauses ++ new ∷ []) clause
cover_more starts trail processed clauses new clause cover = record {
  at = cover.at;
  part = cover.part;
  there = slice_get-append clauses (new ∷ []) cover.at cover.part cover.there;
  among = cover.among;
  kept = cover.kept;
}

-- a clause that is kept covers itself
pub cover_new : (starts : List ℕ) (trail : List SatLit) (processed : ℕ) (clauses : List Watched) (new : Watched) → IsKept starts trail processed new.clause new.first new.second
    → IsCovered starts trail processed (clauses ++ new ∷ []) new.clause
cover_new starts trail processed clauses new kept = record { at = length clauses; part = new; there = slice_get-seam clauses new; among = λ l h. h; kept = kept }

-- what a new clause needs
pub record IsFit (trail : TrailState) (processed : ℕ) (lists : WatchTable) (n : ℕ) (watched : Watched) : Type 0 where
  pub kept : IsKept trail.starts (literals trail.steps) processed watched.clause watched.first watched.second
  pub members : (holds watched.clause watched.first ≡ true) × (holds watched.clause watched.second ≡ true)
  pub listed : (l : SatLit) → watched.first ≢ watched.second → Watches watched l → NamesWatches (watchers lists l) n watched.clause
  pub over : IsOver (length trail.phases) watched.clause

pub right_inserted : (trail : TrailState) (processed : ℕ) (clauses : List Watched) (lists : WatchTable) (new : Watched) → IsFit trail processed lists (length clauses) new
    → IsPropagator trail processed clauses lists → IsPropagator trail processed (clauses ++ new ∷ []) lists
right_inserted trail processed clauses lists new fit right = record {
  reasoned = λ i step at.
      let r = right.reasoned i step at in
      record {
        decided = r.decided;
        forced = λ k e.
            let u = r.forced k e in
            (u.0, slice_get-append clauses (new ∷ []) k u.0 u.1, u.2);
      };
  started = right.started;
  processed_within = right.processed_within;
  covered = λ n watched at. elim (clause_cases clauses new n watched at) [
    | inl old ↦ cover_more trail.starts (literals trail.steps) processed clauses new watched.clause (right.covered n watched old)
    | inr last ↦ subst (λ (w : Watched). IsCovered trail.starts (literals trail.steps) processed (clauses ++ new ∷ []) w.clause) last.1
        (cover_new trail.starts (literals trail.steps) processed clauses new fit.kept)
  ];
  members = λ n watched at. elim (clause_cases clauses new n watched at) [
    | inl old ↦ right.members n watched old
    | inr last ↦ subst (λ (w : Watched). (holds w.clause w.first ≡ true) × (holds w.clause w.second ≡ true)) last.1 fit.members
  ];
  listed = λ n watched l at. elim (clause_cases clauses new n watched at) [
    | inl old ↦ right.listed n watched l old
    | inr last ↦ subst (λ (k : ℕ). watched.first ≢ watched.second → Watches watched l → NamesWatches (watchers lists l) k watched.clause) (sym last.0)
        (subst (λ (w : Watched). w.first ≢ w.second → Watches w l → NamesWatches (watchers lists l) (length clauses) w.clause) last.1 (fit.listed l))
  ];
  over = λ n watched at. elim (clause_cases clauses new n watched at) [
    | inl old ↦ right.over n watched old
    | inr last ↦ subst (λ (w : Watched). IsOver (length trail.phases) w.clause) last.1 fit.over
  ];
  lists_made = right.lists_made;
}

guarded_unseen : (starts : List ℕ) (trail : List SatLit) (processed : ℕ) (clause : List SatLit) (l : SatLit) → IsUnseen starts trail processed l → IsGuarded starts trail processed clause l
guarded_unseen starts trail processed clause l unseen = record {
  at_decisions = λ s at h. absurd (false≢true (sym (unseen.at_decisions s at) ∙ h));
  now = λ h. absurd (false≢true (sym unseen.now ∙ h));
}

-- a clause is watched whose watched literals are false neither at a decision nor among the processed literals
pub right_watched : (trail : TrailState) (processed n : ℕ) (clauses : List Watched) (lists more most : WatchTable) (clause : List SatLit) (first second : SatLit) → n ≡ length clauses
    → holds clause first ≡ true → holds clause second ≡ true → first ≢ second → IsOver (length trail.phases) clause
    → IsUnseen trail.starts (literals trail.steps) processed first → IsUnseen trail.starts (literals trail.steps) processed second
    → Enlists lists more first (record { clause = n; blocker = second }) → length more ≡ length lists → Enlists more most second (record { clause = n; blocker = first }) → length most ≡ length more
    → IsPropagator trail processed clauses lists → IsPropagator trail processed (clauses ++ record { clause = clause; first = first; second = second } ∷ []) most
right_watched trail processed n clauses lists more most clause first second n_is first_in second_in apart over first_unseen second_unseen enlists made enlists_next made_next right =
    right_inserted trail processed clauses most (record { clause = clause; first = first; second = second }) (subst (λ (k : ℕ). IsFit trail processed most k (record { clause = clause; first = first; second = second })) n_is fit)
    (right_enlisted trail processed clauses more most second (record { clause = n; blocker = first }) enlists_next made_next
    (right_enlisted trail processed clauses lists more first (record { clause = n; blocker = second }) enlists made right))
  where
    fit : IsFit trail processed most n (record { clause = clause; first = first; second = second })
    fit = record {
      kept = inl (record {
        first_in = first_in;
        second_in = second_in;
        apart = apart;
        first_guarded = guarded_unseen trail.starts (literals trail.steps) processed clause first first_unseen;
        second_guarded = guarded_unseen trail.starts (literals trail.steps) processed clause second second_unseen;
      });
      members = (first_in, second_in);
      listed = λ l e watches. elim watches [
        | inl is_first ↦ subst (λ (m : SatLit). NamesWatches (watchers most m) n clause) is_first
            (names_longer more most second first (record { clause = n; blocker = first }) n clause enlists_next (names_new lists more first second n clause enlists second_in))
        | inr is_second ↦ subst (λ (m : SatLit). NamesWatches (watchers most m) n clause) is_second (names_new more most second first n clause enlists_next first_in)
      ];
      over = over;
    }

-- the variables of a new clause are made
pub literal_made : (trail after : TrailState) (processed : ℕ) (clauses : List Watched) (lists : WatchTable) (clause : List SatLit) (l : SatLit) → IsOver (length trail.phases) clause → length after.phases ≡ length trail.phases
    → IsPropagator after processed clauses lists → holds clause l ≡ true → l.var.0 * 2 + 1 < length lists
literal_made trail after processed clauses lists clause l over made right member =
    let below : l.var.0 < length trail.phases = All-held (λ (m : SatLit). m.var.0 < length trail.phases) clause l over member in
    omega (arith, right.lists_made)

-- 5. A clause with one literal, where there is no decision

pub right_unit : (trail : TrailState) (processed : ℕ) (clauses : List Watched) (lists : WatchTable) (clause : List SatLit) (l : SatLit) → trail.starts ≡ [] → holds (literals trail.steps) l ≡ true
    → holds clause l ≡ true → ((m : SatLit) → holds clause m ≡ true → m ≡ l) → IsOver (length trail.phases) clause
    → IsPropagator trail processed clauses lists → IsPropagator trail processed (clauses ++ record { clause = clause; first = l; second = l } ∷ []) lists
right_unit trail processed clauses lists clause l root true_now member alone over right =
    right_inserted trail processed clauses lists (record { clause = clause; first = l; second = l }) (record {
      kept = inr (record { at_decisions = λ s at. absurd (no_start s (subst (λ (starts : List ℕ). Contains starts s) root at)); now = satisfied_by (literals trail.steps) clause l member true_now });
      members = (member, member);
      listed = λ m apart watches. absurd (apart refl);
      over = over;
    }) right
  where
    no_start : (s : ℕ) → Contains [] s → ⊥
    no_start s there = let within = there.1 in omega arith

-- a literal becomes true by a clause that is pushed at the same time
pub right_unit_assigned : (trail after : TrailState) (processed n : ℕ) (clauses : List Watched) (lists : WatchTable) (clause : List SatLit) (l : SatLit) → n ≡ length clauses
    → after.steps ≡ trail.steps ++ record { literal = l; reason = Some n } ∷ [] → after.starts ≡ trail.starts → length after.phases ≡ length trail.phases
    → trail.starts ≡ [] → holds (literals trail.steps) (negated l) ≡ false → holds clause l ≡ true → ((m : SatLit) → holds clause m ≡ true → m ≡ l) → IsOver (length trail.phases) clause
    → IsPropagator trail processed clauses lists → IsPropagator after processed (clauses ++ record { clause = clause; first = l; second = l } ∷ []) lists
right_unit_assigned trail after processed n clauses lists clause l n_is steps starts made root undenied member alone over right =
    subst (λ (list : List ℕ). IsPropagator (record { steps = after.steps; starts = list; phases = after.phases }) processed (clauses ++ record { clause = clause; first = l; second = l } ∷ []) lists) (sym starts)
    (subst (λ (list : List Step). IsPropagator (record { steps = list; starts = trail.starts; phases = after.phases }) processed (clauses ++ record { clause = clause; first = l; second = l } ∷ []) lists) (sym steps) longer)
  where
    new : Watched
    new = record { clause = clause; first = l; second = l }

    last : Step
    last = record { literal = l; reason = Some n }

    all : List Watched
    all = clauses ++ record { clause = clause; first = l; second = l } ∷ []

    unit : IsUnitClause (literals trail.steps) clause l
    unit = record { member = member; still_open = undenied; others = λ m h apart. absurd (apart (alone m h)) }

    there : slice_get all n ≡ Some new
    there = ap (slice_get all) n_is ∙ slice_get-seam clauses new

    no_start : (s : ℕ) → Contains [] s → ⊥
    no_start s at = let within = at.1 in omega arith

    true_now : holds (literals trail.steps ++ l ∷ []) l ≡ true
    true_now = holds-append (literals trail.steps) (l ∷ []) l ∙ or_right (holds (literals trail.steps) l) _ (or_left _ _ (same_literal-refl l))

    kept_old : (other : Watched) → IsKept trail.starts (literals trail.steps) processed other.clause other.first other.second
        → IsKept trail.starts (literals (trail.steps ++ last ∷ [])) processed other.clause other.first other.second
    kept_old other kept =
        let inside : processed ≤ length (literals trail.steps) = omega (arith, right.processed_within, length-map trail.steps (λ (s : Step). s.literal)) in
        subst (λ (list : List SatLit). IsKept trail.starts list processed other.clause other.first other.second) (sym (literals-push trail.steps last))
        (kept_push trail.starts (literals trail.steps) processed other.clause other.first other.second l (starts_within trail processed right.started right.processed_within) inside kept)

    kept_new : IsKept trail.starts (literals (trail.steps ++ last ∷ [])) processed clause l l
    kept_new = inr (record {
      at_decisions = λ s at. absurd (no_start s (subst (λ (some : List ℕ). Contains some s) root at));
      now = satisfied_by (literals (trail.steps ++ last ∷ [])) clause l member (ap (λ (some : List SatLit). holds some l) (literals-push trail.steps last) ∙ true_now);
    })

    longer : IsPropagator (record { steps = trail.steps ++ record { literal = l; reason = Some n } ∷ []; starts = trail.starts; phases = after.phases }) processed (clauses ++ record { clause = clause; first = l; second = l } ∷ []) lists
    longer = record {
      reasoned = λ i step at. reasoned_longer trail after.phases all last step n new refl there unit
          (λ k earlier earlier_at.
          let r = right.reasoned k earlier earlier_at in
          record {
            decided = r.decided;
            forced = λ j e.
                let u = r.forced j e in
                (u.0, slice_get-append clauses (new ∷ []) j u.0 u.1, u.2);
          }) i at;
      started = right.started;
      processed_within = omega (arith, right.processed_within, length-append trail.steps (last ∷ []));
      covered = λ k watched at. elim (clause_cases clauses new k watched at) [
        | inl old ↦
            let cover = right.covered k watched old in
            record { at = cover.at; part = cover.part; there = slice_get-append clauses (new ∷ []) cover.at cover.part cover.there; among = cover.among; kept = kept_old cover.part cover.kept }
        | inr end ↦ subst (λ (w : Watched). IsCovered trail.starts (literals (trail.steps ++ last ∷ [])) processed all w.clause) end.1
            (cover_new trail.starts (literals (trail.steps ++ last ∷ [])) processed clauses new kept_new)
      ];
      members = λ k watched at. elim (clause_cases clauses new k watched at) [
        | inl old ↦ right.members k watched old
        | inr end ↦ subst (λ (w : Watched). (holds w.clause w.first ≡ true) × (holds w.clause w.second ≡ true)) end.1 (member, member)
      ];
      listed = λ k watched m at. elim (clause_cases clauses new k watched at) [
        | inl old ↦ right.listed k watched m old
        | inr end ↦ subst (λ (w : Watched). w.first ≢ w.second → Watches w m → NamesWatches (watchers lists m) k w.clause) end.1 (λ apart watches. absurd (apart refl))
      ];
      over = λ k watched at. subst (λ (count : ℕ). IsOver count watched.clause) (sym made) (elim (clause_cases clauses new k watched at) [
        | inl old ↦ right.over k watched old
        | inr end ↦ subst (λ (w : Watched). IsOver (length trail.phases) w.clause) end.1 over
      ]);
      lists_made = omega (arith, made, right.lists_made);
    }

-- where the only literal of a clause is false, the clause is
pub alone_false : (trail clause : List SatLit) (l : SatLit) → holds trail (negated l) ≡ true → ((m : SatLit) → holds clause m ≡ true → m ≡ l) → IsFalseIn trail clause
alone_false trail clause l denied alone =
    All-from_held (λ (m : SatLit). holds trail (negated m) ≡ true) clause (λ m h. ap (λ (k : SatLit). holds trail (negated k)) (alone m h) ∙ denied)

-- a literal whose two signs are not true is open
pub unit_open : (trail : List SatLit) (l : SatLit) → holds trail (negated l) ≡ false → holds trail l ≡ false → mentions_variable trail l.var ≡ false
unit_open trail l undenied untrue = unmentioned trail l untrue undenied

-- a clause without literals is false
pub empty_false : (trail clause read : List SatLit) → read ≡ clause → ((l : SatLit) → holds read l ≡ true → None ≡ Some l) → IsFalseIn trail clause
empty_false trail clause read is none =
    All-from_held (λ (m : SatLit). holds trail (negated m) ≡ true) clause (λ m h. absurd (none_is_not m (none m (ap (λ (some : List SatLit). holds some m) is ∙ h))))

-- 6. No variable, and one more

pub right_empty : IsPropagator (record { steps = []; starts = []; phases = [] }) 0 [] []
right_empty = record {
  reasoned = λ i step at. absurd (none_at i step at);
  started = λ k d h. omega (arith, h);
  processed_within = omega arith;
  covered = λ n watched at. absurd (none_at n watched at);
  members = λ n watched at. absurd (none_at n watched at);
  listed = λ n watched l at. absurd (none_at n watched at);
  over = λ n watched at. absurd (none_at n watched at);
  lists_made = omega arith;
}
  where
    none_at : {X : Type 0} (n : ℕ) (x : X) → slice_get [] n ≡ Some x → ⊥
    none_at n x at = cc

-- entries for one more variable change no list
watchers_more : (lists : WatchTable) (l : SatLit) → watchers (lists ++ [] ∷ [] ∷ []) l ≡ watchers lists l
watchers_more lists l = get_or-defaults lists (packed l) []

pub right_more_lists : (trail : TrailState) (processed : ℕ) (clauses : List Watched) (lists : WatchTable) → IsPropagator trail processed clauses lists → IsPropagator trail processed clauses (lists ++ [] ∷ [] ∷ [])
right_more_lists trail processed clauses lists right = record {
  reasoned = right.reasoned;
  started = right.started;
  processed_within = right.processed_within;
  covered = right.covered;
  members = right.members;
  listed = λ n watched l at apart watches. subst (λ (entries : List Watch). NamesWatches entries n watched.clause) (sym (watchers_more lists l)) (right.listed n watched l at apart watches);
  over = right.over;
  lists_made = omega (arith, right.lists_made, length-append lists ([] ∷ [] ∷ []));
}

pub right_variable : (trail : TrailState) (processed : ℕ) (clauses : List Watched) (lists : WatchTable) → length trail.phases * 2 + 2 ≤ length lists → IsPropagator trail processed clauses lists
    → IsPropagator (record { steps = trail.steps; starts = trail.starts; phases = trail.phases ++ false ∷ [] }) processed clauses lists
right_variable trail processed clauses lists room right = record {
  reasoned = λ i step at. let r = right.reasoned i step at in record { decided = r.decided; forced = r.forced };
  started = right.started;
  processed_within = right.processed_within;
  covered = right.covered;
  members = right.members;
  listed = right.listed;
  over = λ n watched at. All-weaker (λ (l : SatLit). l.var.0 < length trail.phases) (λ (l : SatLit). l.var.0 < length (trail.phases ++ false ∷ []))
      (λ l h. omega (arith, h, length-append trail.phases (false ∷ []))) watched.clause (right.over n watched at);
  lists_made = omega (arith, room, length-append trail.phases (false ∷ []));
}
