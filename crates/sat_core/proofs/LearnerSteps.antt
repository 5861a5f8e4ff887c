-- What keeps a learner right, call by call.
use Rattle.std.proofs.Common.{◌≡◌, inl, inr, ◌<◌, ◌+◌, ℕ, Bool, true, false, List, [], ◌∷◌, ◌++◌, Some, IsTrue, length, sym, ap, ◌∙◌, subst, arith, length-append}
use Rattle.std.specs.List.{Contains, slice_get}
use Rattle.std.proofs.lemmas.Bool.{false≢true}
use Rattle.std.proofs.lemmas.List.{length-map}
use Rattle.std.proofs.lemmas.List.Elements.{All-weaker, All-contains, All-contains_itself, Contains-push, Contains-append_left, Contains-append_right, Contains-append_cases}
use Rattle.std.proofs.lemmas.Option.{slice_get_within, slice_get-get_or}
use Rattle.sat_base.specs.declared.literal.SatLit.{SatLit}
use Rattle.sat_base.specs.Literal.{IsOver}
use Rattle.sat_base.proofs.LiteralLaws.{All-held, All-from_held}
use Rattle.sat_base.specs.Truth.{assigned, clause_value, AllTrue, Implies}
use Rattle.sat_log.specs.declared.chain.Premise.{Premise}
use Rattle.sat_log.specs.declared.chain.Premise.TheVariants.{Clause, Result}
use Rattle.sat_log.specs.declared.log.LogEntry.{LogEntry}
use Rattle.sat_log.specs.Chains.{premise_clause, results, IsLogOver}
use Rattle.sat_log.specs.Propagation.{IsNew, Includes, ReachesFalse}
use Rattle.sat_log.proofs.ChainLaws.{slice_get-append, IsLogOver-append}
use Rattle.sat_log.proofs.Implied.{results_implied}
use Rattle.sat_log.proofs.PropagationLaws.{ReachesFalse-included}
use Rattle.sat_propagate.specs.Internal.Propagator.{IsPropagator, texts}
use Rattle.sat_propagate.specs.declared.propagator.Propagator.{Propagator}
use Rattle.sat_core.specs.Solver.{learned_from, WereLearned}
use Rattle.sat_core.specs.Internal.Learner.{IsNamedPropagator, AreInserted, AreLearned, AreOver, IsLearnerOf, IsUnlearned}
use Rattle.sat_core.specs.declared.learner.Learner.{Learner}
use Rattle.sat_core.proofs.NameLaws.{ready_same}
use Rattle.sat_core.proofs.LearnerLaws.{AreInserted-within, AreInserted-next, AreInserted-append, AreLearned-append, WereLearned-append, WereLearned-push, premise_occurring, learned_open, learned_pushed}

log_length : (log : List LogEntry) → length (results log) ≡ length log
log_length log = length-map log (λ (entry : LogEntry). entry.result)

-- the propagator changed, and no clause was lost from it
pub learner_kept : (clauses : List (List SatLit)) (log : List LogEntry) (is_refuted : Bool) (before after : Propagator) (names more : List Premise) (marks marked : List Bool) (n m : ℕ)
    → IsNamedPropagator clauses (results log) after more marked → Includes (texts before.clauses.items) (texts after.clauses.items)
    → IsLearnerOf clauses log is_refuted before names marks n m → IsLearnerOf clauses log is_refuted after more marked n m
learner_kept clauses log is_refuted before after names more marks marked n m ready within l = record {
  ready = ready;
  logged = l.logged;
  clauses_made = l.clauses_made;
  results_made = l.results_made;
  clauses_in = AreInserted-within n clauses (texts before.clauses.items) (texts after.clauses.items) within l.clauses_in;
  results_in = AreInserted-within m (results log) (texts before.clauses.items) (texts after.clauses.items) within l.results_in;
  of_learned = l.of_learned;
  in_turn = l.in_turn;
  refuted = l.refuted;
}

-- a clause more or the same ones are in the propagator
pub Includes-push : (before after : List (List SatLit)) (clause : List SatLit) → after ≡ before ++ clause ∷ [] → Includes before after
Includes-push before after clause e = λ c there. subst (λ (list : List (List SatLit)). Contains list c) (sym e) (Contains-append_left before (clause ∷ []) c there)

pub Includes-same : (before after : List (List SatLit)) → after ≡ before → Includes before after
Includes-same before after e = λ c there. subst (λ (list : List (List SatLit)). Contains list c) (sym e) there

-- the last result of a log is implied
last_implied : (clauses : List (List SatLit)) (before after : List LogEntry) (outcome : List SatLit) → IsLogOver clauses after → results after ≡ results before ++ outcome ∷ [] → Implies clauses outcome
last_implied clauses before after outcome logged are =
    All-contains (Implies clauses) (results after) outcome (results_implied clauses after logged) (subst (λ (list : List (List SatLit)). Contains list outcome) (sym are) (Contains-push (results before) outcome))

-- the log has one result more
pub learner_logged : (clauses : List (List SatLit)) (before after : List LogEntry) (is_refuted : Bool) (propagator : Propagator) (names : List Premise) (marks : List Bool) (n m : ℕ) (outcome : List SatLit)
    → is_refuted ≡ false → IsNamedPropagator clauses (results after) propagator names marks → IsLogOver clauses after → results after ≡ results before ++ outcome ∷ [] → AreLearned clauses (results before ++ outcome ∷ [])
    → IsNew (clauses ++ results before) outcome → IsLearnerOf clauses before is_refuted propagator names marks n m → IsLearnerOf clauses after is_refuted propagator names marks n m
learner_logged clauses before after is_refuted propagator names marks n m outcome still_open ready logged are learned new l = record {
  ready = ready;
  logged = logged;
  clauses_made = l.clauses_made;
  results_made = omega (arith, l.results_made, log_length before, log_length after, ap (λ (list : List (List SatLit)). length list) are, length-append (results before) (outcome ∷ []));
  clauses_in = l.clauses_in;
  results_in = subst (λ (list : List (List SatLit)). AreInserted m list (texts propagator.clauses.items)) (sym are)
      (AreInserted-append m (results before) (outcome ∷ []) (texts propagator.clauses.items) (omega (arith, l.results_made, log_length before)) l.results_in);
  of_learned = subst (AreLearned clauses) (sym (learned_open is_refuted (results after) still_open ∙ are)) learned;
  in_turn = subst (WereLearned clauses) (sym (learned_open is_refuted (results after) still_open ∙ are))
      (WereLearned-push clauses (results before) outcome (subst (WereLearned clauses) (learned_open is_refuted (results before) still_open) l.in_turn)
      (record { implied = last_implied clauses before after outcome logged are; new = new }));
  refuted = λ e. absurd (false≢true (sym still_open ∙ e));
}

-- the last result is the empty clause
pub learner_refuted : (clauses : List (List SatLit)) (before after : List LogEntry) (was_refuted : Bool) (propagator : Propagator) (names : List Premise) (marks : List Bool) (n m : ℕ)
    → was_refuted ≡ false → IsNamedPropagator clauses (results after) propagator names marks → IsLogOver clauses after → results after ≡ results before ++ [] ∷ [] → ReachesFalse (clauses ++ results before) []
    → IsLearnerOf clauses before was_refuted propagator names marks n m → IsLearnerOf clauses after true propagator names marks n m
learner_refuted clauses before after was_refuted propagator names marks n m still_open ready logged are reaches l = record {
  ready = ready;
  logged = logged;
  clauses_made = l.clauses_made;
  results_made = omega (arith, l.results_made, log_length before, log_length after, ap (λ (list : List (List SatLit)). length list) are, length-append (results before) ([] ∷ []));
  clauses_in = l.clauses_in;
  results_in = subst (λ (list : List (List SatLit)). AreInserted m list (texts propagator.clauses.items)) (sym are)
      (AreInserted-append m (results before) ([] ∷ []) (texts propagator.clauses.items) (omega (arith, l.results_made, log_length before)) l.results_in);
  of_learned = subst (AreLearned clauses) (sym learned_is) (subst (AreLearned clauses) (learned_open was_refuted (results before) still_open) l.of_learned);
  in_turn = subst (WereLearned clauses) (sym learned_is) (subst (WereLearned clauses) (learned_open was_refuted (results before) still_open) l.in_turn);
  refuted = λ e. record {
    ends = are ∙ ap (λ (list : List (List SatLit)). list ++ [] ∷ []) (sym learned_is);
    propagated = subst (λ (list : List (List SatLit)). ReachesFalse (clauses ++ list) []) (sym learned_is) reaches;
  };
}
  where
    learned_is : learned_from true (results after) ≡ results before
    learned_is = ap (learned_from true) are ∙ learned_pushed (results before) []

premise_added : (clauses some : List (List SatLit)) (more : List SatLit) (premise : Premise) (clause : List SatLit) → premise_clause clauses some premise ≡ Some clause
    → premise_clause (clauses ++ more ∷ []) some premise ≡ Some clause
premise_added clauses some more (Result n) clause e = e
premise_added clauses some more (Clause n) clause e = slice_get-append clauses (more ∷ []) n clause e

ready_added : (clauses some : List (List SatLit)) (more : List SatLit) (propagator : Propagator) (names : List Premise) (marks : List Bool)
    → IsNamedPropagator clauses some propagator names marks → IsNamedPropagator (clauses ++ more ∷ []) some propagator names marks
ready_added clauses some more propagator names marks ready = record {
  right = ready.right;
  named = λ n watched at. let known = ready.named n watched at in (known.0, known.1, premise_added clauses some more known.0 watched.clause known.2);
  names_made = ready.names_made;
  marks_made = ready.marks_made;
}

Includes-added : (clauses more learned : List (List SatLit)) → Includes (clauses ++ learned) ((clauses ++ more) ++ learned)
Includes-added clauses more learned = λ clause there. elim (Contains-append_cases clauses learned clause there) [
  | inl first ↦ Contains-append_left (clauses ++ more) learned clause (Contains-append_left clauses more clause first)
  | inr second ↦ Contains-append_right (clauses ++ more) learned clause second
]

-- a clause is added
pub learner_added : (clauses : List (List SatLit)) (more : List SatLit) (log : List LogEntry) (is_refuted : Bool) (propagator : Propagator) (names : List Premise) (marks : List Bool) (n m : ℕ)
    → IsLearnerOf clauses log is_refuted propagator names marks n m → IsLearnerOf (clauses ++ more ∷ []) log is_refuted propagator names marks n m
learner_added clauses more log is_refuted propagator names marks n m l = record {
  ready = ready_added clauses (results log) more propagator names marks l.ready;
  logged = IsLogOver-append clauses (more ∷ []) log l.logged;
  clauses_made = omega (arith, l.clauses_made, length-append clauses (more ∷ []));
  results_made = l.results_made;
  clauses_in = AreInserted-append n clauses (more ∷ []) (texts propagator.clauses.items) l.clauses_made l.clauses_in;
  results_in = l.results_in;
  of_learned = AreLearned-append clauses (more ∷ []) (learned_from is_refuted (results log)) l.of_learned;
  in_turn = WereLearned-append clauses (more ∷ []) (learned_from is_refuted (results log)) l.in_turn;
  refuted = λ e. let r = l.refuted e in record {
    ends = r.ends;
    propagated = ReachesFalse-included (clauses ++ learned_from true (results log)) ((clauses ++ more ∷ []) ++ learned_from true (results log))
        (Includes-added clauses (more ∷ []) (learned_from true (results log))) [] r.propagated;
  };
}

-- one more of the clauses is inserted
pub learner_next_clause : (clauses : List (List SatLit)) (log : List LogEntry) (is_refuted : Bool) (propagator : Propagator) (names : List Premise) (marks : List Bool) (n m : ℕ) (clause : List SatLit)
    → slice_get clauses n ≡ Some clause → Contains (texts propagator.clauses.items) clause → IsLearnerOf clauses log is_refuted propagator names marks n m → IsLearnerOf clauses log is_refuted propagator names marks (n + 1) m
learner_next_clause clauses log is_refuted propagator names marks n m clause at there l = record {
  ready = l.ready;
  logged = l.logged;
  clauses_made = let inside = slice_get_within clauses n clause at in omega (arith, inside);
  results_made = l.results_made;
  clauses_in = AreInserted-next n clauses (texts propagator.clauses.items) clause at there l.clauses_in;
  results_in = l.results_in;
  of_learned = l.of_learned;
  in_turn = l.in_turn;
  refuted = l.refuted;
}

-- one more of the results is inserted
pub learner_next_result : (clauses : List (List SatLit)) (log : List LogEntry) (is_refuted : Bool) (propagator : Propagator) (names : List Premise) (marks : List Bool) (n m : ℕ) (clause : List SatLit)
    → slice_get (results log) m ≡ Some clause → Contains (texts propagator.clauses.items) clause → IsLearnerOf clauses log is_refuted propagator names marks n m → IsLearnerOf clauses log is_refuted propagator names marks n (m + 1)
learner_next_result clauses log is_refuted propagator names marks n m clause at there l = record {
  ready = l.ready;
  logged = l.logged;
  clauses_made = l.clauses_made;
  results_made = let inside = slice_get_within (results log) m clause at in omega (arith, inside, log_length log);
  clauses_in = l.clauses_in;
  results_in = AreInserted-next m (results log) (texts propagator.clauses.items) clause at there l.results_in;
  of_learned = l.of_learned;
  in_turn = l.in_turn;
  refuted = l.refuted;
}

pub IsUnlearned-trans : (a b c : Learner) → IsUnlearned a b → IsUnlearned b c → IsUnlearned a c
IsUnlearned-trans a b c first second = record {
  clauses_same = second.clauses_same ∙ first.clauses_same;
  made_same = second.made_same ∙ first.made_same;
  log_same = second.log_same ∙ first.log_same;
  refuted_same = second.refuted_same ∙ first.refuted_same;
}

-- the last of some texts is among them
pub pushed_there : (before after : List (List SatLit)) (clause : List SatLit) → after ≡ before ++ clause ∷ [] → Contains after clause
pushed_there before after clause e = subst (λ (list : List (List SatLit)). Contains list clause) (sym e) (Contains-push before clause)

-- the propagator has the same clauses
pub learner_same : (clauses : List (List SatLit)) (log : List LogEntry) (is_refuted : Bool) (before after : Propagator) (names : List Premise) (marks : List Bool) (n m : ℕ)
    → IsPropagator after.trail after.processed after.clauses.items after.lists → length after.trail.phases ≡ length before.trail.phases → texts after.clauses.items ≡ texts before.clauses.items
    → IsLearnerOf clauses log is_refuted before names marks n m → IsLearnerOf clauses log is_refuted after names marks n m
learner_same clauses log is_refuted before after names marks n m right made same l =
    learner_kept clauses log is_refuted before after names names marks marks n m (ready_same clauses (results log) before after names marks right made same l.ready)
    (Includes-same (texts before.clauses.items) (texts after.clauses.items) same) l

-- values that make some clauses true make each of these true
pub true_within : (values : List Bool) (clauses others : List (List SatLit)) → ((clause : List SatLit) → Contains clauses clause → Contains others clause) → AllTrue (assigned values) others → AllTrue (assigned values) clauses
true_within values clauses others within all =
    All-weaker (Contains clauses) (λ clause. IsTrue (clause_value (assigned values) clause)) (λ clause there. All-contains (λ (c : List SatLit). IsTrue (clause_value (assigned values) c)) others clause all (within clause there))
    clauses (All-contains_itself clauses)

-- the variables of some clauses, and of what was learned from them, are made
pub premise_over : (n : ℕ) (clauses : List (List SatLit)) (log : List LogEntry) (is_refuted : Bool) (premise : Premise) (clause : List SatLit) → is_refuted ≡ false → AreOver n clauses
    → AreLearned clauses (learned_from is_refuted (results log)) → premise_clause clauses (results log) premise ≡ Some clause → IsOver n clause
premise_over n clauses log is_refuted premise clause still_open over learned is =
    let known : AreLearned clauses (results log) = subst (AreLearned clauses) (learned_open is_refuted (results log) still_open) learned in
    All-from_held (λ (l : SatLit). l.var.0 < n) clause (λ l h.
    let found = premise_occurring clauses (results log) premise clause l known is h in
    All-held (λ (m : SatLit). m.var.0 < n) found.1 l (over found.0 found.1 (slice_get-get_or clauses found.0 found.1 found.2 ∙ ap Some found.3)) found.4)
