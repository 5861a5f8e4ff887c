-- The steps of `point_chain`.
use Rattle.std.proofs.Common.{◌≡◌, ◌≢◌, ◌⊎◌, inl, inr, ◌<◌, ◌≤◌, ◌+◌, ◌-◌, ℕ, zero, suc, ◌&&◌, ◌||◌, not, Bool, true, false, List, [], ◌∷◌, ◌++◌, Some, None, IsTrue, length, take, drop, get_or, refl, sym, ap, ◌∙◌, subst, arith}
use Rattle.std.specs.List.{slice_get, Contains}
use Rattle.std.specs.Option.{option_map, option_and_then}
use Rattle.std.proofs.lemmas.Bool.{false≢true, cases_Bool, or_left, false_from_ne_true, cases_order}
use Rattle.std.proofs.lemmas.List.{length-map, take_all}
use Rattle.std.proofs.lemmas.List.Elements.{All-weaker}
use Rattle.std.proofs.lemmas.Option.{slice_get_within, slice_get-map, same_Some, get_or_from_slice_get}
use Rattle.sat_base.specs.declared.literal.Var.{Var}
use Rattle.sat_base.specs.declared.literal.SatLit.{SatLit}
use Rattle.sat_base.specs.Literal.{positive, negative, negated, same_var, same_literal, holds, mentions_variable, HoldsNoVariableTwice, IsOver}
use Rattle.sat_base.proofs.LiteralLaws.{same_literal-refl, same_literal-true, same_literal-negated, negated-negated, mentions-held, All-held, All-from_held}
use Rattle.sat_log.specs.declared.chain.Premise.{Premise}
use Rattle.sat_log.specs.declared.chain.ChainStep.{ChainStep}
use Rattle.sat_log.specs.Resolution.{without_literal, resolved, resolvent}
use Rattle.sat_log.proofs.VariableLaws.{twice_from_false, mentioned_as}
use Rattle.std.specs.Prelude.{if◌then◌else◌}
use Rattle.sat_log.specs.Chains.{premise_clause, after_step, after_steps, chain_result}
use Rattle.sat_log.specs.Propagation.{IsUnitClause, IsFalseIn, IsConsistent}
use Rattle.sat_log.proofs.ChainLaws.{and_then-Some}
use Rattle.sat_laws.specs.Internal.Analysis.{IsFalseBefore, one_if, how_many}
use Rattle.sat_laws.specs.Internal.Complete.{IsComplete}
use Rattle.sat_laws.proofs.CompleteLaws.{consistent_once}
use Rattle.sat_laws.proofs.TrailLaws.{held_at}
use Rattle.sat_laws.proofs.WatchLaws.{held-take}
use Rattle.sat_laws.proofs.AnalysisLaws.{IsOutcome, step_resolves, outcome_false, outcome_mentions, others_before, mentioned_by, place_below, held_below, get-drop, one_at_least}
use Rattle.sat_propagate.specs.Internal.Trail.{TrailState, literals, IsTrail}
use Rattle.sat_propagate.specs.Internal.Propagator.{texts}
use Rattle.sat_core.specs.Internal.Marks.{is_marked, marks_literal, others}
use Rattle.sat_core.specs.Internal.Learned.{AreNamedPremises, IsLearned, IsAnalysed, IsRefuting}
use Rattle.sat_propagate.specs.declared.trail.Step.{Step}
use Rattle.sat_propagate.specs.Internal.ClauseTable.{Watched}
use Rattle.sat_propagate.proofs.PlaceLaws.{literal_at, once_place}
use Rattle.sat_propagate.proofs.TableLaws.{get_or-any}

-- a literal whose negation is true has a variable with a value
pub valued_by_negation : (some : List SatLit) (l : SatLit) → holds some (negated l) ≡ true → mentions_variable some l.var ≡ true
valued_by_negation some l h = mentions-held some (negated l) h

-- the literals of a reason have values
pub reason_valued : (trail : TrailState) (i : ℕ) (step : Step) (reason : List SatLit) → slice_get trail.steps i ≡ Some step → IsUnitClause (take i (literals trail.steps)) reason step.literal
    → (l : SatLit) → holds reason l ≡ true → mentions_variable (literals trail.steps) l.var ≡ true
reason_valued trail i step reason at unit l h =
    elim (cases_Bool (same_literal l step.literal)) [
      | inl same ↦ ap (λ (k : SatLit). mentions_variable (literals trail.steps) k.var) (same_literal-true l step.literal same)
          ∙ mentions-held (literals trail.steps) step.literal (held_at (literals trail.steps) i step.literal (literal_at trail.steps i step at))
      | inr other ↦ valued_by_negation (literals trail.steps) l (held-take i (literals trail.steps) (negated l)
          (unit.others l h (λ e. false≢true (sym other ∙ subst (λ (k : SatLit). same_literal l k ≡ true) e (same_literal-refl l)))))
    ]

-- one step more of a chain
after_steps-push : (store results : List (List SatLit)) (clause so_far next : List SatLit) (steps : List ChainStep) (step : ChainStep) → after_steps store results clause steps ≡ Some so_far
    → after_step store results so_far step ≡ Some next → after_steps store results clause (steps ++ step ∷ []) ≡ Some next
after_steps-push store results clause so_far next [] step e f =
    ap (λ (c : List SatLit). option_and_then (λ n. Some n) (after_step store results c step)) (same_Some clause so_far e)
    ∙ ap (option_and_then (λ n. Some n)) f
after_steps-push store results clause so_far next (first ∷ steps) step e f =
    let parts = and_then-Some (λ c. after_steps store results c steps) (after_step store results clause first) so_far e in
    ap (option_and_then (λ c. after_steps store results c (steps ++ step ∷ []))) parts.1
    ∙ after_steps-push store results parts.0 so_far next steps step parts.2 f

pub chain_result-push : (store results : List (List SatLit)) (first : Premise) (steps : List ChainStep) (step : ChainStep) (so_far next : List SatLit)
    → chain_result store results (record { first = first; steps = steps }) ≡ Some so_far → after_step store results so_far step ≡ Some next
    → chain_result store results (record { first = first; steps = steps ++ step ∷ [] }) ≡ Some next
chain_result-push store results first steps step so_far next e f =
    let parts = and_then-Some (λ c. after_steps store results c steps) (premise_clause store results first) so_far e in
    ap (option_and_then (λ c. after_steps store results c (steps ++ step ∷ []))) parts.1
    ∙ after_steps-push store results parts.0 so_far next steps step parts.2 f

-- what is true of the literal at the place where the analysis stands, where its variable is marked
denied_there : (clauses : List Watched) (trail : TrailState) (names : List Premise) (conflict start : ℕ) (marks : List Bool) (steps : List ChainStep) (late place : ℕ) (step : Step)
    → (a : IsAnalysed clauses trail names conflict start marks steps late place) → IsTrail trail → slice_get trail.steps (place - 1) ≡ Some step → is_marked marks step.literal.var ≡ true
    → (holds a.so_far (negated step.literal) ≡ true) × (holds a.so_far step.literal ≡ false)
denied_there clauses trail names conflict start marks steps late place step a right at marked = (
  elim (mentioned_as a.so_far step.literal (sym (a.marked step.literal.var) ∙ marked)) [
    | inl h ↦ absurd (never h)
    | inr h ↦ h
  ],
  false_from_ne_true (holds a.so_far step.literal) never,
)
  where
    never : holds a.so_far step.literal ≡ true → ⊥
    never h = consistent_once (literals trail.steps) right.once step.literal (held_at (literals trail.steps) (place - 1) step.literal (literal_at trail.steps (place - 1) step at))
        (held-take place (literals trail.steps) (negated step.literal) (a.below step.literal h))

-- a reason does not hold the negation of its literal
pub reason_undenied : (trail : TrailState) (i : ℕ) (step : Step) (reason : List SatLit) → IsTrail trail → slice_get trail.steps i ≡ Some step → IsUnitClause (take i (literals trail.steps)) reason step.literal
    → holds reason (negated step.literal) ≡ false
reason_undenied trail i step reason right at unit =
    false_from_ne_true (holds reason (negated step.literal)) (λ h.
    let apart : negated step.literal ≢ step.literal = λ e. false≢true (sym (same_literal-negated step.literal) ∙ ap (same_literal step.literal) e ∙ same_literal-refl step.literal) in
    let earlier : holds (take i (literals trail.steps)) step.literal ≡ true = ap (holds (take i (literals trail.steps))) (sym (negated-negated step.literal)) ∙ unit.others (negated step.literal) h apart in
    let found = place_below (literals trail.steps) i step.literal earlier in
    let same = once_place (literals trail.steps) found.0 i step.literal step.literal right.once found.2 (literal_at trail.steps i step at) refl in
    let before = found.1 in
    absurd (omega arith))

resolved_is : (x y : Bool) (r s outcome : List SatLit) → (if x then Some r else (if y then Some s else None)) ≡ Some outcome → (r ≡ outcome) ⊎ (s ≡ outcome)
resolved_is true y r s outcome e = inl (same_Some r outcome e)
resolved_is false true r s outcome e = inr (same_Some s outcome e)
resolved_is false false r s outcome e = absurd (cc)

-- a resolvent that is false in a consistent list holds no variable twice
pub once_resolved : (trail : List SatLit) (v : Var) (a b outcome : List SatLit) (place : ℕ) → IsConsistent trail → resolved v a b ≡ Some outcome → IsFalseBefore place trail outcome → HoldsNoVariableTwice outcome
once_resolved trail v a b outcome place consistent e below =
    elim (resolved_is (holds a (positive v) && holds b (negative v)) (holds a (negative v) && holds b (positive v)) (resolvent v a b) (resolvent v b a) outcome e) [
      | inl same ↦ subst HoldsNoVariableTwice same (twice_from_false trail v a b consistent (subst (IsFalseIn trail) (sym same) each))
      | inr same ↦ subst HoldsNoVariableTwice same (twice_from_false trail v b a consistent (subst (IsFalseIn trail) (sym same) each))
    ]
  where
    each : IsFalseIn trail outcome
    each = All-from_held (λ (m : SatLit). holds trail (negated m) ≡ true) outcome (λ l h. held-take place trail (negated l) (below l h))

pub analysed_next : (clauses : List Watched) (trail : TrailState) (names : List Premise) (conflict start : ℕ) (marks after : List Bool) (steps : List ChainStep) (late more place n : ℕ) (step : Step) (watched : Watched) (name : Premise)
    → IsAnalysed clauses trail names conflict start marks steps late place → IsTrail trail → 0 < place → slice_get trail.steps (place - 1) ≡ Some step → is_marked marks step.literal.var ≡ true
    → slice_get clauses n ≡ Some watched → IsUnitClause (take (place - 1) (literals trail.steps)) watched.clause step.literal → slice_get names n ≡ Some name
    → ((v : Var) → is_marked after v ≡ ((is_marked marks v && not (same_var v step.literal.var)) || mentions_variable (others (Some step.literal) watched.clause) v))
    → more ≡ how_many (marks_literal after) (drop start (literals trail.steps)) → late ≤ more + 1 → late ≢ 1
    → IsAnalysed clauses trail names conflict start after (steps ++ record { var = step.literal.var; premise = name } ∷ []) more (place - 1)
analysed_next clauses trail names conflict start marks after steps late more place n step watched name a right positive at marked there unit named marks_after counted late_le late_ne = record {
  so_far = made.0;
  below = below_next;
  marked = λ v. marks_after v
      ∙ ap (λ (b : Bool). (b && not (same_var v step.literal.var)) || mentions_variable (without_literal step.literal watched.clause) v) (a.marked v)
      ∙ sym (outcome_mentions step.literal a.so_far watched.clause made.0 made.2 denied.1 (reason_undenied trail (place - 1) step watched.clause right at unit) v);
  counted = counted;
  some = let once_at_least = a.some in omega arith;
  occurring = λ l h. elim (made.2.from_either l h) [
    | inl before ↦ a.occurring l before.0
    | inr reason ↦ record { at = n; watched = watched; there = there; member = reason.0 }
  ];
  origin = inr (once_resolved (literals trail.steps) step.literal.var a.so_far watched.clause made.0 (place - 1) (consistent_once (literals trail.steps) right.once) made.1 below_next);
  derived = λ store results are_named first first_named.
      chain_result-push store results first steps (record { var = step.literal.var; premise = name }) a.so_far made.0 (a.derived store results are_named first first_named)
      (let known = are_named n watched there in
      ap (option_and_then (resolved step.literal.var a.so_far)) (ap (premise_clause store results) (same_Some name known.0 (sym named ∙ known.1)) ∙ known.2) ∙ made.1);
}
  where
    place_is : place ≡ place - 1 + 1
    place_is = omega arith

    denied : (holds a.so_far (negated step.literal) ≡ true) × (holds a.so_far step.literal ≡ false)
    denied = denied_there clauses trail names conflict start marks steps late place step a right at marked

    made : (outcome : List SatLit) × (resolved step.literal.var a.so_far watched.clause ≡ Some outcome) × IsOutcome step.literal a.so_far watched.clause outcome
    made = step_resolves step.literal a.so_far watched.clause denied.0 denied.1 unit.member

    below_next : IsFalseBefore (place - 1) (literals trail.steps) made.0
    below_next = outcome_false (literals trail.steps) a.so_far watched.clause made.0 (place - 1) step.literal (literal_at trail.steps (place - 1) step at)
        (subst (λ (k : ℕ). IsFalseBefore k (literals trail.steps) a.so_far) place_is a.below) unit made.2

-- a place is passed whose variable is not marked
pub analysed_skip : (clauses : List Watched) (trail : TrailState) (names : List Premise) (conflict start : ℕ) (marks : List Bool) (steps : List ChainStep) (late place : ℕ) (step : Step)
    → IsAnalysed clauses trail names conflict start marks steps late place → 0 < place → slice_get trail.steps (place - 1) ≡ Some step → is_marked marks step.literal.var ≡ false
    → IsAnalysed clauses trail names conflict start marks steps late (place - 1)
analysed_skip clauses trail names conflict start marks steps late place step a positive at unmarked = record {
  so_far = a.so_far;
  below = λ l h. earlier l h (place_below (literals trail.steps) place (negated l) (a.below l h));
  marked = a.marked;
  counted = a.counted;
  some = a.some;
  occurring = a.occurring;
  origin = a.origin;
  derived = a.derived;
}
  where
    earlier : (l : SatLit) → holds a.so_far l ≡ true → (i : ℕ) × (i < place) × (slice_get (literals trail.steps) i ≡ Some (negated l)) → holds (take (place - 1) (literals trail.steps)) (negated l) ≡ true
    earlier l h found =
        elim (cases_order found.0 (place - 1)) [
          | inl here ↦
              let is : negated l ≡ step.literal = same_Some (negated l) step.literal (sym found.2 ∙ ap (slice_get (literals trail.steps)) here ∙ literal_at trail.steps (place - 1) step at) in
              absurd (false≢true (sym unmarked ∙ ap (λ (k : SatLit). is_marked marks k.var) (sym is) ∙ a.marked l.var ∙ mentions-held a.so_far l h))
          | inr other ↦ elim other [
            | inl before ↦ held_below (literals trail.steps) (place - 1) found.0 (negated l) before found.2
            | inr after ↦ let within = found.1 in absurd (omega arith)
          ]
        ]

-- a start is at most the last one
last_greatest : (trail : TrailState) (start s : ℕ) → IsTrail trail → slice_get trail.starts (length trail.starts - 1) ≡ Some start → Contains trail.starts s → s ≤ start
last_greatest trail start s right last at =
    let k = at.0 in
    let inside : k < length trail.starts = at.1 in
    let s_is : get_or trail.starts k 0 ≡ s = get_or_default_zero' trail.starts k s inside ∙ at.2 in
    let last_is : get_or trail.starts (length trail.starts - 1) 0 ≡ start = get_or_from_slice_get trail.starts (length trail.starts - 1) start 0 last in
    elim (cases_order k (length trail.starts - 1)) [
      | inl same ↦ let e : get_or trail.starts k 0 ≡ get_or trail.starts (length trail.starts - 1) 0 = ap (λ (n : ℕ). get_or trail.starts n 0) same in omega arith
      | inr other ↦ elim other [
        | inl less ↦ let below = right.ascending k (length trail.starts - 1) less (omega arith) in omega arith
        | inr more ↦ absurd (omega arith)
      ]
    ]
  where
    get_or_default_zero' : (xs : List ℕ) (i d : ℕ) → i < length xs → get_or xs i 0 ≡ get_or xs i d
    get_or_default_zero' xs i d h = get_or-any xs i 0 d h

-- the clause so far is what is learned where the place holds the only late marked literal, or a decision
pub analysed_stop : (clauses : List Watched) (trail : TrailState) (names : List Premise) (conflict start : ℕ) (marks : List Bool) (steps : List ChainStep) (late place : ℕ) (step : Step)
    → (a : IsAnalysed clauses trail names conflict start marks steps late place) → IsTrail trail → slice_get trail.starts (length trail.starts - 1) ≡ Some start → start < place
    → slice_get trail.steps (place - 1) ≡ Some step → is_marked marks step.literal.var ≡ true → (step.reason ≡ None → Contains trail.starts (place - 1)) → (step.reason ≡ None) ⊎ (late ≡ 1)
    → IsLearned trail start a.so_far
analysed_stop clauses trail names conflict start marks steps late place step a right last from at marked decided why = record {
  last = last;
  point = step.literal;
  on_trail = held_at (literals trail.steps) (place - 1) step.literal (literal_at trail.steps (place - 1) step at);
  late = false_from_ne_true (holds (take start (literals trail.steps)) step.literal) (λ h.
      let found = place_below (literals trail.steps) start step.literal h in
      let same = once_place (literals trail.steps) found.0 (place - 1) step.literal step.literal right.once found.2 (literal_at trail.steps (place - 1) step at) refl in
      let before = found.1 in
      absurd (omega arith));
  member = (denied_there clauses trail names conflict start marks steps late place step a right at marked).0;
  others = by_cause why;
}
  where
    place_is : place ≡ place - 1 + 1
    place_is = omega arith

    by_cause : (step.reason ≡ None) ⊎ (late ≡ 1) → (l : SatLit) → holds a.so_far l ≡ true → same_literal (negated step.literal) l ≡ false → holds (take start (literals trail.steps)) (negated l) ≡ true
    by_cause (inr one) l h apart =
        others_before (literals trail.steps) a.so_far (marks_literal marks) start (place - 1) step.literal (omega arith) (literal_at trail.steps (place - 1) step at)
        (subst (λ (k : ℕ). IsFalseBefore k (literals trail.steps) a.so_far) place_is a.below)
        (λ m held. a.marked m.var ∙ mentions-held a.so_far m held) marked (sym a.counted ∙ one) l h apart
    by_cause (inl none) l h apart =
        let greatest = last_greatest trail start (place - 1) right last (decided none) in
        let found = place_below (literals trail.steps) place (negated l) (a.below l h) in
        let within = found.1 in
        elim (cases_order found.0 start) [
          | inl here ↦
              let same : found.0 ≡ place - 1 = omega arith in
              let is : negated l ≡ step.literal = same_Some (negated l) step.literal (sym found.2 ∙ ap (slice_get (literals trail.steps)) same ∙ literal_at trail.steps (place - 1) step at) in
              absurd (false≢true (sym apart ∙ ap (same_literal (negated step.literal)) (sym (negated-negated l) ∙ ap negated is) ∙ same_literal-refl (negated step.literal)))
          | inr other ↦ elim other [
            | inl before ↦ held_below (literals trail.steps) start found.0 (negated l) before found.2
            | inr after ↦ absurd (omega arith)
          ]
        ]

some_counted : (p : SatLit → Bool) (xs : List SatLit) → 1 ≤ how_many p xs → (i : ℕ) × (x : SatLit) × (slice_get xs i ≡ Some x) × (p x ≡ true)
some_counted p [] h = absurd (omega arith)
some_counted p (x ∷ xs) h =
    elim (cases_Bool (p x)) [
      | inl passes ↦ (zero, x, refl, passes)
      | inr fails ↦
          let first : one_if (p x) ≡ 0 = ap one_if fails in
          let rest = some_counted p xs (omega arith) in
          (suc rest.0, rest.1, rest.2, rest.3)
    ]

drop-get : (xs : List SatLit) (s i : ℕ) (x : SatLit) → slice_get (drop s xs) i ≡ Some x → slice_get xs (s + i) ≡ Some x
drop-get xs zero i x at = ap (slice_get xs) (omega arith) ∙ at
drop-get [] (suc s) i x at = absurd (cc)
drop-get (y ∷ xs) (suc s) i x at = let e : suc s + i ≡ suc (s + i) = omega arith in ap (slice_get (y ∷ xs)) e ∙ drop-get xs s i x at

-- the analysis ends before the last decision's place is passed
pub analysed_end : (clauses : List Watched) (trail : TrailState) (names : List Premise) (conflict start : ℕ) (marks : List Bool) (steps : List ChainStep) (late place : ℕ)
    → IsAnalysed clauses trail names conflict start marks steps late place → IsTrail trail → place ≤ start → ⊥
analysed_end clauses trail names conflict start marks steps late place a right past =
    let positive = a.some in
    let count = a.counted in
    let some = some_counted (marks_literal marks) (drop start (literals trail.steps)) (omega arith) in
    let l = mentioned_by a.so_far some.1.var (sym (a.marked some.1.var) ∙ some.3) in
    let found = place_below (literals trail.steps) place (negated l.0) (a.below l.0 l.1) in
    let same = once_place (literals trail.steps) found.0 (start + some.0) (negated l.0) some.1 right.once found.2 (drop-get (literals trail.steps) start some.0 some.1 some.2) l.2 in
    let within = found.1 in
    omega arith

contains_text : (clauses : List Watched) (n : ℕ) (watched : Watched) → slice_get clauses n ≡ Some watched → Contains (texts clauses) watched.clause
contains_text clauses n watched at =
    let text : slice_get (texts clauses) n ≡ Some watched.clause = slice_get-map (λ (w : Watched). w.clause) clauses n ∙ ap (option_map (λ (w : Watched). w.clause)) at in
    (n, slice_get_within (texts clauses) n watched.clause text, get_or_from_slice_get (texts clauses) n watched.clause watched.clause text)

-- the analysis begins with the clause that is false
pub analysed_start : (clauses : List Watched) (trail : TrailState) (names : List Premise) (conflict start : ℕ) (cleared marks : List Bool) (late place : ℕ) (watched : Watched)
    → IsTrail trail → IsComplete (texts clauses) (take start (literals trail.steps)) → slice_get clauses conflict ≡ Some watched → IsFalseIn (literals trail.steps) watched.clause
    → ((v : Var) → is_marked cleared v ≡ false) → ((v : Var) → is_marked marks v ≡ (is_marked cleared v || mentions_variable (others None watched.clause) v))
    → late + how_many (marks_literal cleared) (drop start (literals trail.steps)) ≡ how_many (marks_literal marks) (drop start (literals trail.steps)) → place ≡ length trail.steps
    → IsAnalysed clauses trail names conflict start marks [] late place
analysed_start clauses trail names conflict start cleared marks late place watched right complete there each clear marks_are counted place_is = record {
  so_far = watched.clause;
  below = λ l h. ap (λ (some : List SatLit). holds some (negated l)) whole ∙ All-held (λ m. IsTrue (holds (literals trail.steps) (negated m))) watched.clause l each h;
  marked = marked_is;
  counted = late_is;
  some = elim (cases_order late 0) [
    | inl none ↦ absurd (complete.none_false watched.clause (contains_text clauses conflict watched there)
        (All-from_held (λ m. IsTrue (holds (take start (literals trail.steps)) (negated m))) watched.clause (λ l h. early l h none)))
    | inr other ↦ elim other [ inl less ↦ absurd (omega arith) | inr more ↦ omega arith ]
  ];
  occurring = λ l h. record { at = conflict; watched = watched; there = there; member = h };
  origin = inl (contains_text clauses conflict watched there);
  derived = λ store results are_named name named.
      let known = are_named conflict watched there in
      ap (option_and_then (λ first. Some first)) (ap (premise_clause store results) (same_Some name known.0 (sym named ∙ known.1)) ∙ known.2);
}
  where
    whole : take place (literals trail.steps) ≡ literals trail.steps
    whole = take_all place (literals trail.steps) (omega (arith, place_is, length-map trail.steps (λ (s : Step). s.literal)))

    filter_all : (some : List SatLit) → others None some ≡ some
    filter_all [] = refl
    filter_all (l ∷ some) = ap (λ (rest : List SatLit). l ∷ rest) (filter_all some)

    marked_is : (v : Var) → is_marked marks v ≡ mentions_variable watched.clause v
    marked_is v = marks_are v ∙ ap (λ (b : Bool). b || mentions_variable (others None watched.clause) v) (clear v) ∙ ap (λ (some : List SatLit). mentions_variable some v) (filter_all watched.clause)

    none_counted : (xs : List SatLit) → how_many (marks_literal cleared) xs ≡ 0
    none_counted [] = refl
    none_counted (x ∷ xs) =
        let first : one_if (is_marked cleared x.var) ≡ 0 = ap one_if (clear x.var) in
        let rest = none_counted xs in
        omega arith

    late_is : late ≡ how_many (marks_literal marks) (drop start (literals trail.steps))
    late_is = omega (arith, counted, none_counted (drop start (literals trail.steps)))

    too_many : (l : SatLit) → holds watched.clause l ≡ true → late ≡ 0 → (i : ℕ) → slice_get (literals trail.steps) i ≡ Some (negated l) → start ≤ i → ⊥
    too_many l h none i at from =
        let one = one_at_least (marks_literal marks) (drop start (literals trail.steps)) (i - start) (negated l) (get-drop (literals trail.steps) start i (negated l) from at)
        (marked_is l.var ∙ mentions-held watched.clause l h) in
        omega (arith, late_is)

    early : (l : SatLit) → holds watched.clause l ≡ true → late ≡ 0 → holds (take start (literals trail.steps)) (negated l) ≡ true
    early l h none =
        let denied : holds (take place (literals trail.steps)) (negated l) ≡ true =
        ap (λ (some : List SatLit). holds some (negated l)) whole ∙ All-held (λ m. IsTrue (holds (literals trail.steps) (negated m))) watched.clause l each h in
        let found = place_below (literals trail.steps) place (negated l) denied in
        elim (cases_order found.0 start) [
          | inl here ↦ absurd (too_many l h none found.0 found.2 (omega arith))
          | inr other ↦ elim other [
            | inl before ↦ held_below (literals trail.steps) start found.0 (negated l) before found.2
            | inr after ↦ absurd (too_many l h none found.0 found.2 (omega arith))
          ]
        ]

pub contains_at : {X : Type 0} (xs : List X) (i : ℕ) (x : X) → slice_get xs i ≡ Some x → Contains xs x
contains_at xs i x at = (i, slice_get_within xs i x at, get_or_from_slice_get xs i x x at)

-- the clause that is false has literals with values
pub conflict_valued : (trail : TrailState) (clause read : List SatLit) → IsFalseIn (literals trail.steps) clause → read ≡ clause → (l : SatLit) → holds read l ≡ true → mentions_variable (literals trail.steps) l.var ≡ true
conflict_valued trail clause read each is l h =
    valued_by_negation (literals trail.steps) l (All-held (λ m. IsTrue (holds (literals trail.steps) (negated m))) clause l each (ap (λ (some : List SatLit). holds some l) (sym is) ∙ h))

-- The steps of `refuted_chain`.

refuting_denied : (trail : TrailState) (so_far : List SatLit) (marks : List Bool) (place : ℕ) (step : Step) → IsFalseBefore place (literals trail.steps) so_far → ((v : Var) → is_marked marks v ≡ mentions_variable so_far v)
    → IsTrail trail → slice_get trail.steps (place - 1) ≡ Some step → is_marked marks step.literal.var ≡ true
    → (holds so_far (negated step.literal) ≡ true) × (holds so_far step.literal ≡ false)
refuting_denied trail so_far marks place step below marked right at there = (
  elim (mentioned_as so_far step.literal (sym (marked step.literal.var) ∙ there)) [
    | inl h ↦ absurd (never h)
    | inr h ↦ h
  ],
  false_from_ne_true (holds so_far step.literal) never,
)
  where
    never : holds so_far step.literal ≡ true → ⊥
    never h = consistent_once (literals trail.steps) right.once step.literal (held_at (literals trail.steps) (place - 1) step.literal (literal_at trail.steps (place - 1) step at))
        (held-take place (literals trail.steps) (negated step.literal) (below step.literal h))

pub refuting_next : (clauses : List Watched) (trail : TrailState) (names : List Premise) (first : Premise) (clause : List SatLit) (marks after : List Bool) (steps : List ChainStep) (place n : ℕ) (step : Step) (watched : Watched) (name : Premise)
    → IsRefuting clauses trail names first clause marks steps place → IsTrail trail → 0 < place → slice_get trail.steps (place - 1) ≡ Some step → is_marked marks step.literal.var ≡ true
    → slice_get clauses n ≡ Some watched → IsUnitClause (take (place - 1) (literals trail.steps)) watched.clause step.literal → slice_get names n ≡ Some name
    → ((v : Var) → is_marked after v ≡ ((is_marked marks v && not (same_var v step.literal.var)) || mentions_variable (others (Some step.literal) watched.clause) v))
    → IsRefuting clauses trail names first clause after (steps ++ record { var = step.literal.var; premise = name } ∷ []) (place - 1)
refuting_next clauses trail names first clause marks after steps place n step watched name a right positive at marked there unit named marks_after = record {
  so_far = made.0;
  below = outcome_false (literals trail.steps) a.so_far watched.clause made.0 (place - 1) step.literal (literal_at trail.steps (place - 1) step at)
      (subst (λ (k : ℕ). IsFalseBefore k (literals trail.steps) a.so_far) place_is a.below) unit made.2;
  marked = λ v. marks_after v
      ∙ ap (λ (b : Bool). (b && not (same_var v step.literal.var)) || mentions_variable (without_literal step.literal watched.clause) v) (a.marked v)
      ∙ sym (outcome_mentions step.literal a.so_far watched.clause made.0 made.2 denied.1 (reason_undenied trail (place - 1) step watched.clause right at unit) v);
  derived = λ store results are_named is.
      chain_result-push store results first steps (record { var = step.literal.var; premise = name }) a.so_far made.0 (a.derived store results are_named is)
      (let known = are_named n watched there in
      ap (option_and_then (resolved step.literal.var a.so_far)) (ap (premise_clause store results) (same_Some name known.0 (sym named ∙ known.1)) ∙ known.2) ∙ made.1);
}
  where
    place_is : place ≡ place - 1 + 1
    place_is = omega arith

    denied : (holds a.so_far (negated step.literal) ≡ true) × (holds a.so_far step.literal ≡ false)
    denied = refuting_denied trail a.so_far marks place step a.below a.marked right at marked

    made : (outcome : List SatLit) × (resolved step.literal.var a.so_far watched.clause ≡ Some outcome) × IsOutcome step.literal a.so_far watched.clause outcome
    made = step_resolves step.literal a.so_far watched.clause denied.0 denied.1 unit.member

pub refuting_skip : (clauses : List Watched) (trail : TrailState) (names : List Premise) (first : Premise) (clause : List SatLit) (marks : List Bool) (steps : List ChainStep) (place : ℕ) (step : Step)
    → IsRefuting clauses trail names first clause marks steps place → slice_get trail.steps (place - 1) ≡ Some step → is_marked marks step.literal.var ≡ false
    → IsRefuting clauses trail names first clause marks steps (place - 1)
refuting_skip clauses trail names first clause marks steps place step a at unmarked = record {
  so_far = a.so_far;
  below = λ l h. earlier l h (place_below (literals trail.steps) place (negated l) (a.below l h));
  marked = a.marked;
  derived = a.derived;
}
  where
    earlier : (l : SatLit) → holds a.so_far l ≡ true → (i : ℕ) × (i < place) × (slice_get (literals trail.steps) i ≡ Some (negated l)) → holds (take (place - 1) (literals trail.steps)) (negated l) ≡ true
    earlier l h found =
        elim (cases_order found.0 (place - 1)) [
          | inl here ↦
              let is : negated l ≡ step.literal = same_Some (negated l) step.literal (sym found.2 ∙ ap (slice_get (literals trail.steps)) here ∙ literal_at trail.steps (place - 1) step at) in
              absurd (false≢true (sym unmarked ∙ ap (λ (k : SatLit). is_marked marks k.var) (sym is) ∙ a.marked l.var ∙ mentions-held a.so_far l h))
          | inr other ↦ elim other [
            | inl before ↦ held_below (literals trail.steps) (place - 1) found.0 (negated l) before found.2
            | inr after ↦ let within = found.1 in absurd (omega arith)
          ]
        ]

pub refuting_start : (clauses : List Watched) (trail : TrailState) (names : List Premise) (first : Premise) (clause : List SatLit) (cleared marks : List Bool) (place : ℕ)
    → IsFalseIn (literals trail.steps) clause → ((v : Var) → is_marked cleared v ≡ false) → ((v : Var) → is_marked marks v ≡ (is_marked cleared v || mentions_variable (others None clause) v)) → place ≡ length trail.steps
    → IsRefuting clauses trail names first clause marks [] place
refuting_start clauses trail names first clause cleared marks place each clear marks_are place_is = record {
  so_far = clause;
  below = λ l h. ap (λ (some : List SatLit). holds some (negated l)) whole ∙ All-held (λ m. IsTrue (holds (literals trail.steps) (negated m))) clause l each h;
  marked = λ v. marks_are v ∙ ap (λ (b : Bool). b || mentions_variable (others None clause) v) (clear v) ∙ ap (λ (some : List SatLit). mentions_variable some v) (filter_all clause);
  derived = λ store results are_named is. ap (option_and_then (λ c. Some c)) is;
}
  where
    whole : take place (literals trail.steps) ≡ literals trail.steps
    whole = take_all place (literals trail.steps) (omega (arith, place_is, length-map trail.steps (λ (s : Step). s.literal)))

    filter_all : (some : List SatLit) → others None some ≡ some
    filter_all [] = refl
    filter_all (l ∷ some) = ap (λ (rest : List SatLit). l ∷ rest) (filter_all some)

-- a clause that is false before place 0 is empty
none_held : (some : List SatLit) → ((l : SatLit) → holds some l ≡ true → ⊥) → some ≡ []
none_held [] none = refl
none_held (l ∷ some) none = absurd (none l (or_left _ _ (same_literal-refl l)))

pub refuting_end : (clauses : List Watched) (trail : TrailState) (names : List Premise) (first : Premise) (clause : List SatLit) (marks : List Bool) (steps : List ChainStep) (place : ℕ)
    → IsRefuting clauses trail names first clause marks steps place → place ≤ 0 → (store results : List (List SatLit)) → AreNamedPremises store results names clauses → premise_clause store results first ≡ Some clause
    → chain_result store results (record { first = first; steps = steps }) ≡ Some []
refuting_end clauses trail names first clause marks steps place a end store results are_named is =
    let zero_is : place ≡ 0 = omega arith in
    a.derived store results are_named is
    ∙ ap Some (none_held a.so_far (λ l h. false≢true (ap (λ (n : ℕ). holds (take n (literals trail.steps)) (negated l)) (sym zero_is) ∙ a.below l h)))

pub no_start : (starts : List ℕ) (i : ℕ) → starts ≡ [] → Contains starts i → ⊥
no_start starts i none at = let inside = at.1 in omega (arith, ap (λ (list : List ℕ). length list) none)

pub over_more : (fewer more : ℕ) (clause : List SatLit) → fewer ≤ more → IsOver fewer clause → IsOver more clause
over_more fewer more clause h over = All-weaker (λ (l : SatLit). l.var.0 < fewer) (λ (l : SatLit). l.var.0 < more) (λ l below. omega (arith, h, below)) clause over

-- what is learned is none of the clauses, so it holds no variable twice
pub learned_once : (clauses : List Watched) (trail : TrailState) (start : ℕ) (outcome : List SatLit) → IsComplete (texts clauses) (take start (literals trail.steps)) → IsTrail trail → IsLearned trail start outcome
    → Contains (texts clauses) outcome ⊎ HoldsNoVariableTwice outcome → HoldsNoVariableTwice outcome
learned_once clauses trail start outcome complete whole learned (inr once) = once
learned_once clauses trail start outcome complete whole learned (inl there) =
    absurd (elim (cases_Bool (holds part learned.point)) [
      | inl early ↦ complete.none_false outcome there (All-from_held (λ (m : SatLit). holds part (negated m) ≡ true) outcome (λ l h. elim (cases_Bool (same_literal (negated learned.point) l)) [
        | inl same ↦ ap (λ (k : SatLit). holds part (negated k)) (sym (same_literal-true (negated learned.point) l same)) ∙ ap (holds part) (negated-negated learned.point) ∙ early
        | inr apart ↦ learned.others l h apart
      ]))
      | inr late ↦
          let unit : IsUnitClause part outcome (negated learned.point) = record {
            member = learned.member;
            still_open = ap (holds part) (negated-negated learned.point) ∙ late;
            others = λ m h apart. learned.others m h (false_from_ne_true (same_literal (negated learned.point) m) (λ e. apart (sym (same_literal-true (negated learned.point) m e))));
          } in
          consistent_once (literals trail.steps) whole.once learned.point learned.on_trail
          (held-take start (literals trail.steps) (negated learned.point) (complete.units_held outcome (negated learned.point) there unit))
    ])
  where
    part : List SatLit
    part = take start (literals trail.steps)
