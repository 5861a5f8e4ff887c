-- What keeps a solver right.
use Rattle.std.proofs.Common.{◌≡◌, inl, inr, ◌<◌, ◌≤◌, ℕ, Bool, List, [], ◌∷◌, ◌++◌, Some, length, refl, sym, ap, ◌∙◌, subst, arith, length-append}
use Rattle.std.specs.List.{slice_get}
use Rattle.std.specs.Option.{option_map}
use Rattle.std.proofs.lemmas.Bool.{cases_order}
use Rattle.std.proofs.lemmas.List.{length-map, map-append}
use Rattle.std.proofs.lemmas.Option.{slice_get-map, slice_get_cases, slice_get_within, same_Some}
use Rattle.sat_base.specs.declared.literal.SatLit.{SatLit}
use Rattle.sat_log.specs.declared.chain.Premise.{Premise}
use Rattle.sat_log.specs.Chains.{premise_clause, chain_result, results, AppendsChain}
use Rattle.sat_log.proofs.ChainLaws.{slice_get-append, slice_get-before, slice_get-seam}
use Rattle.sat_log.specs.declared.chain.Chain.{Chain}
use Rattle.sat_log.specs.declared.log.LogEntry.{LogEntry}
use Rattle.sat_log.specs.declared.chain.Premise.TheVariants.{Clause, Result}
use Rattle.std.specs.Prelude.{IsSome, Option}
use Rattle.sat_core.specs.Internal.Learned.{AreNamedPremises}
use Rattle.sat_propagate.specs.Internal.Trail.{TrailState}
use Rattle.sat_propagate.specs.Internal.WatchLists.{WatchTable}
use Rattle.sat_propagate.specs.Internal.Propagator.{IsPropagator, texts}
use Rattle.sat_core.specs.Internal.Learner.{IsNamedPropagator}
use Rattle.sat_propagate.specs.declared.propagator.Propagator.{Propagator}
use Rattle.sat_propagate.specs.Internal.ClauseTable.{Watched}
use Rattle.sat_propagate.proofs.ListLaws.{get-past_seam}

text_of : (clauses : List Watched) (n : ℕ) (watched : Watched) → slice_get clauses n ≡ Some watched → slice_get (texts clauses) n ≡ Some watched.clause
text_of clauses n watched at = slice_get-map (λ (w : Watched). w.clause) clauses n ∙ ap (option_map (λ (w : Watched). w.clause)) at

-- a text at a place is that of the clause there
of_text : (clauses : List Watched) (n : ℕ) (text : List SatLit) → n < length clauses → slice_get (texts clauses) n ≡ Some text → (watched : Watched) × (slice_get clauses n ≡ Some watched) × (watched.clause ≡ text)
of_text clauses n text inside at =
    elim ((slice_get_cases clauses n).1) [
      | inl found ↦ (found.0, found.2, same_Some _ _ (sym (text_of clauses n found.0 found.2) ∙ at))
      | inr past ↦ let long = past.0 in absurd (omega arith)
    ]

-- names go by the texts
pub named_same : (store results : List (List SatLit)) (names : List Premise) (before after : List Watched) → texts after ≡ texts before → AreNamedPremises store results names before → AreNamedPremises store results names after
named_same store results names before after same named n watched at =
    let text : slice_get (texts before) n ≡ Some watched.clause = ap (λ (list : List (List SatLit)). slice_get list n) (sym same) ∙ text_of after n watched at in
    elim ((slice_get_cases before n).1) [
      | inl found ↦
          let w = of_text before n watched.clause found.1 text in
          let known = named n w.0 w.1 in
          (known.0, known.1, known.2 ∙ ap Some w.2)
      | inr past ↦
          let long = past.0 in
          let inside = slice_get_inside (texts before) n watched.clause text in
          absurd (omega (arith, length-map before (λ (w : Watched). w.clause)))
    ]
  where
    slice_get_inside : (xs : List (List SatLit)) (k : ℕ) (x : List SatLit) → slice_get xs k ≡ Some x → k < length xs
    slice_get_inside xs k x h = slice_get_within xs k x h

pub named_pushed : (store results : List (List SatLit)) (names : List Premise) (before after : List Watched) (premise : Premise) (clause : List SatLit) → length names ≡ length before
    → texts after ≡ texts before ++ clause ∷ [] → premise_clause store results premise ≡ Some clause → AreNamedPremises store results names before → AreNamedPremises store results (names ++ premise ∷ []) after
named_pushed store results names before after premise clause made pushed is named n watched at =
    elim (cases_order n (length before)) [
      | inl end ↦
          let at_end : n ≡ length (texts before) = end ∙ sym (length-map before (λ (w : Watched). w.clause)) in
          let same : clause ≡ watched.clause = same_Some _ _ (sym (slice_get-seam (texts before) clause) ∙ ap (slice_get (texts before ++ clause ∷ [])) (sym at_end) ∙ text) in
          (premise, ap (slice_get (names ++ premise ∷ [])) (end ∙ sym made) ∙ slice_get-seam names premise, is ∙ ap Some same)
      | inr other ↦ elim other [
        | inl less ↦
            let w = of_text before n watched.clause less (sym (slice_get-before (texts before) (clause ∷ []) n (omega (arith, less, length-map before (λ (w : Watched). w.clause)))) ∙ text) in
            let known = named n w.0 w.1 in
            (known.0, slice_get-append names (premise ∷ []) n known.0 known.1, known.2 ∙ ap Some w.2)
        | inr more ↦ absurd (get-past_seam (texts before) clause n watched.clause (omega (arith, more, length-map before (λ (w : Watched). w.clause))) text)
      ]
    ]
  where
    text : slice_get (texts before ++ clause ∷ []) n ≡ Some watched.clause
    text = ap (λ (list : List (List SatLit)). slice_get list n) (sym pushed) ∙ text_of after n watched at

-- one clause more in the propagator, with its name
pub ready_pushed : (store results : List (List SatLit)) (before after : Propagator) (names more : List Premise) (marks : List Bool) (premise : Premise) (clause : List SatLit) → more ≡ names ++ premise ∷ []
    → IsPropagator after.trail after.processed after.clauses.items after.lists → length after.trail.phases ≡ length before.trail.phases → texts after.clauses.items ≡ texts before.clauses.items ++ clause ∷ []
    → premise_clause store results premise ≡ Some clause → IsNamedPropagator store results before names marks → IsNamedPropagator store results after more marks
ready_pushed store results before after names more marks premise clause more_is right made pushed is ready =
    subst (λ (list : List Premise). IsNamedPropagator store results after list marks) (sym more_is) (record {
      right = right;
      named = named_pushed store results names before.clauses.items after.clauses.items premise clause ready.names_made pushed is ready.named;
      names_made = omega (
        arith,
        ready.names_made,
        ap (λ (list : List (List SatLit)). length list) pushed,
        length-append (texts before.clauses.items) (clause ∷ []),
        length-append names (premise ∷ []),
        length-map before.clauses.items (λ (w : Watched). w.clause),
        length-map after.clauses.items (λ (w : Watched). w.clause),
      );
      marks_made = omega (arith, ready.marks_made, made);
    })

-- the same clauses in the propagator
pub ready_same : (store results : List (List SatLit)) (before after : Propagator) (names : List Premise) (marks : List Bool)
    → IsPropagator after.trail after.processed after.clauses.items after.lists → length after.trail.phases ≡ length before.trail.phases → texts after.clauses.items ≡ texts before.clauses.items
    → IsNamedPropagator store results before names marks → IsNamedPropagator store results after names marks
ready_same store results before after names marks right made same ready = record {
  right = right;
  named = named_same store results names before.clauses.items after.clauses.items same ready.named;
  names_made = omega (
    arith,
    ready.names_made,
    ap (λ (list : List (List SatLit)). length list) same,
    length-map before.clauses.items (λ (w : Watched). w.clause),
    length-map after.clauses.items (λ (w : Watched). w.clause),
  );
  marks_made = omega (arith, ready.marks_made, made);
}

-- a variable's mark more than there are variables, or not
pub ready_marks : (store results : List (List SatLit)) (propagator : Propagator) (names : List Premise) (marks more : List Bool) → length marks ≤ length more
    → IsNamedPropagator store results propagator names marks → IsNamedPropagator store results propagator names more
ready_marks store results propagator names marks more longer ready = record {
  right = ready.right;
  named = ready.named;
  names_made = ready.names_made;
  marks_made = omega (arith, ready.marks_made, longer);
}

pub ready_variable : (store results : List (List SatLit)) (before after : Propagator) (names : List Premise) (marks : List Bool)
    → IsPropagator after.trail after.processed after.clauses.items after.lists → length after.trail.phases ≤ length marks
    → after.clauses.items ≡ before.clauses.items → IsNamedPropagator store results before names marks → IsNamedPropagator store results after names marks
ready_variable store results before after names marks right marked same ready = record {
  right = right;
  named = named_same store results names before.clauses.items after.clauses.items (ap texts same) ready.named;
  names_made = ready.names_made ∙ sym (ap (λ (list : List Watched). length list) same);
  marks_made = marked;
}

-- names stay right where there is one result more
premise_more : (store results : List (List SatLit)) (more : List SatLit) (premise : Premise) (clause : List SatLit) → premise_clause store results premise ≡ Some clause → premise_clause store (results ++ more ∷ []) premise ≡ Some clause
premise_more store results more (Clause n) clause e = e
premise_more store results more (Result n) clause e = slice_get-append results (more ∷ []) n clause e

pub ready_learned : (store results : List (List SatLit)) (propagator : Propagator) (names : List Premise) (marks : List Bool) (outcome : List SatLit)
    → IsNamedPropagator store results propagator names marks → IsNamedPropagator store (results ++ outcome ∷ []) propagator names marks
ready_learned store results propagator names marks outcome ready = record {
  right = ready.right;
  named = λ n watched at. let known = ready.named n watched at in (known.0, known.1, premise_more store results outcome known.0 watched.clause known.2);
  names_made = ready.names_made;
  marks_made = ready.marks_made;
}

-- a chain with its result is appended to the log
pub ready_appended : (store : List (List SatLit)) (before after : List LogEntry) (propagator : Propagator) (names : List Premise) (marks : List Bool) (chain : Chain) → IsNamedPropagator store (results before) propagator names marks
    → AppendsChain store before after chain → IsNamedPropagator store (results after) propagator names marks
ready_appended store before after propagator names marks chain ready appends =
    subst (λ (list : List (List SatLit)). IsNamedPropagator store list propagator names marks) (sym results_are)
    (ready_learned store (results before) propagator names marks appends.outcome ready)
  where
    results_are : results after ≡ results before ++ appends.outcome ∷ []
    results_are = ap results appends.appended ∙ map-append (λ (entry : LogEntry). entry.result) before (record { chain = chain; result = appends.outcome } ∷ [])

pub appended_results : (store : List (List SatLit)) (before after : List LogEntry) (chain : Chain) (outcome : List SatLit) → chain_result store (results before) chain ≡ Some outcome → AppendsChain store before after chain
    → results after ≡ results before ++ outcome ∷ []
appended_results store before after chain outcome derived appends =
    ap results appends.appended
    ∙ map-append (λ (entry : LogEntry). entry.result) before (record { chain = chain; result = appends.outcome } ∷ [])
    ∙ ap (λ (o : List SatLit). results before ++ o ∷ []) (same_Some _ _ (sym appends.derived ∙ derived))

pub ready_empty : (propagator : Propagator) → IsPropagator propagator.trail propagator.processed propagator.clauses.items propagator.lists → propagator.clauses.items ≡ [] → length propagator.trail.phases ≡ 0
    → IsNamedPropagator [] [] propagator [] []
ready_empty propagator right empty none = record {
  right = right;
  named = λ n watched at. absurd (nowhere n watched (ap (λ (list : List Watched). slice_get list n) (sym empty) ∙ at));
  names_made = ap (λ (list : List Watched). length list) (sym empty);
  marks_made = omega (arith, none);
}
  where
    nowhere : (n : ℕ) (watched : Watched) → slice_get [] n ≡ Some watched → ⊥
    nowhere n watched at = cc

pub result_there : (log : List LogEntry) (n : ℕ) → n < length log → IsSome (slice_get (results log) n)
result_there log n inside =
    elim ((slice_get_cases (results log) n).1) [
      | inl found ↦ subst (λ (o : Option (List SatLit)). IsSome o) (sym found.2) refl
      | inr past ↦ let long = past.0 in absurd (omega (arith, inside, length-map log (λ (entry : LogEntry). entry.result)))
    ]

-- the propagator's facts go by these parts of it
pub right_same : (before after : Propagator) → after.trail ≡ before.trail → after.processed ≡ before.processed → after.clauses.items ≡ before.clauses.items → after.lists ≡ before.lists
    → IsPropagator before.trail before.processed before.clauses.items before.lists → IsPropagator after.trail after.processed after.clauses.items after.lists
right_same before after trail processed clauses lists right =
    subst (λ (t : TrailState). IsPropagator t after.processed after.clauses.items after.lists) (sym trail)
    (subst (λ (n : ℕ). IsPropagator before.trail n after.clauses.items after.lists) (sym processed)
    (subst (λ (list : List Watched). IsPropagator before.trail before.processed list after.lists) (sym clauses)
    (subst (λ (list : WatchTable). IsPropagator before.trail before.processed before.clauses.items list) (sym lists) right)))
