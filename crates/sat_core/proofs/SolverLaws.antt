-- What callers see of a learner.
use Rattle.std.proofs.Common.{◌≡◌, ◌≢◌, ◌≤◌, ◌^◌, ◌↔◌, ℕ, Bool, true, false, List, [], ◌∷◌, ◌++◌, length, take, refl, sym, ap, ◌∙◌, subst, arith, append-nil}
use Rattle.std.specs.List.{All, Contains}
use Rattle.std.proofs.lemmas.List.{length-map}
use Rattle.std.proofs.lemmas.List.Elements.{All-contains, Contains-push}
use Rattle.std.proofs.lemmas.Option.{slice_get_within}
use Rattle.sat_base.specs.declared.literal.Var.{Var}
use Rattle.sat_base.specs.declared.literal.SatLit.{SatLit}
use Rattle.sat_base.specs.Truth.{Unsat as AreUnsatisfiable, Implies}
use Rattle.sat_base.proofs.TruthLaws.{unsat_from_empty}
use Rattle.sat_log.specs.declared.log.LogEntry.{LogEntry}
use Rattle.sat_log.specs.Chains.{results}
use Rattle.sat_log.specs.Propagation.{IsNew, ReachesFalse, AreFailingDecisions}
use Rattle.sat_log.proofs.Implied.{results_implied}
use Rattle.sat_core.specs.declared.learner.Learner.{Learner}
use Rattle.sat_core.specs.declared.learner.Answer.{Answer}
use Rattle.sat_core.specs.declared.learner.Answer.TheVariants.{Sat, Unsat, Spent}
use Rattle.sat_core.specs.Solver.{SolverState, learned_from, learned, AreAmong, SolverGrows, IsSound}
use Rattle.sat_core.specs.Internal.Learner.{IsLearner, GrewLearner, AreSpentConflicts, AnswersSolve, seen, state_with}
use Rattle.sat_core.proofs.AnalysisSteps.{contains_at}
use Rattle.sat_core.proofs.LearnerLaws.{learned_open, learned_at}

pub sound_of : (values : List Bool) (s : Learner) → IsLearner s → IsSound (state_with values s)
sound_of values s l = record {
  logged = l.logged;
  once = l.of_learned.once;
  apart = l.of_learned.apart;
  occurring = l.of_learned.occurring;
  in_turn = l.in_turn;
  ends = λ e. let r = l.refuted e in r.ends ∙ ap (λ (b : Bool). learned_from b (results s.log) ++ [] ∷ []) (sym e);
}

pub implied_of : (s : Learner) → IsLearner s → All (Implies s.clauses) (results s.log)
implied_of s l = results_implied s.clauses s.log l.logged

pub unsat_of : (s : Learner) → IsLearner s → s.is_refuted ≡ true → AreUnsatisfiable s.clauses
unsat_of s l e =
    let r = l.refuted e in
    let there : Contains (results s.log) [] = subst (λ (list : List (List SatLit)). Contains list []) (sym r.ends) (Contains-push (learned_from true (results s.log)) []) in
    unsat_from_empty s.clauses (All-contains (Implies s.clauses) (results s.log) [] (implied_of s l) there)

pub grows_of : (before after : Learner) → before.is_refuted ≡ false → IsLearner after → GrewLearner before after → SolverGrows (seen before) (seen after)
grows_of before after still_open l grew = record {
  clauses_same = grew.clauses_same;
  made_same = grew.made_same;
  more = grew.more;
  appended = grew.appended;
  new = λ k clause from at.
      let found = learned_at after.is_refuted (results after.log) k clause at in
      let count : length (learned (seen before)) ≡ length before.log =
      ap (λ (list : List (List SatLit)). length list) (learned_open before.is_refuted (results before.log) still_open) ∙ length-map before.log (λ (entry : LogEntry). entry.result) in
      subst (λ (list : List (List SatLit)). IsNew (before.clauses ++ list) clause) (sym found.1)
      (grew.new k clause (omega (arith, from, count)) found.0 (l.of_learned.filled clause (contains_at (learned (seen after)) k clause at)));
}

-- nothing changed
pub grows_same : (solver : SolverState) → SolverGrows solver solver
grows_same solver = record {
  clauses_same = refl;
  made_same = refl;
  more = [];
  appended = sym (append-nil solver.log);
  new = λ k clause from at. let inside = slice_get_within (learned solver) k clause at in absurd (omega (arith, from, inside));
}

-- with other values, as many
pub grows_shown : (before after : Learner) (values values_after : List Bool) → length values_after ≡ length values → SolverGrows (seen before) (seen after) → SolverGrows (state_with values before) (state_with values_after after)
grows_shown before after values values_after made grew = record {
  clauses_same = grew.clauses_same;
  made_same = made;
  more = grew.more;
  appended = grew.appended;
  new = grew.new;
}

-- variables were made before
pub grows_made : (before made after : Learner) (values values_after : List Bool) → made.clauses ≡ before.clauses → made.log ≡ before.log → made.is_refuted ≡ before.is_refuted → length values_after ≡ length values
    → SolverGrows (seen made) (seen after) → SolverGrows (state_with values before) (state_with values_after after)
grows_made before made after values values_after clauses log refuted count grew = record {
  clauses_same = grew.clauses_same ∙ clauses;
  made_same = count;
  more = grew.more;
  appended = grew.appended ∙ ap (λ (list : List LogEntry). list ++ grew.more) log;
  new = λ k clause from at. subst (λ (some : List (List SatLit)). IsNew (some ++ take k (learned (seen after))) clause) clauses
      (grew.new k clause (omega (arith, from, ap (λ (some : List (List SatLit)). length some) known)) at);
}
  where
    known : learned (seen made) ≡ learned (seen before)
    known = ap (λ (b : Bool). learned_from b (results made.log)) refuted ∙ ap (λ (list : List LogEntry). learned_from before.is_refuted (results list)) log

-- what an answer says of whether the clauses are refuted
pub answer_refuted : (budget : ℕ) (s : SolverState) (answer : Answer) → AnswersSolve budget s answer → answer ≡ Unsat ↔ s.is_refuted ≡ true
answer_refuted budget s Sat a = (λ e. absurd (cc), λ e. let o = a.0 in absurd (cc))
answer_refuted budget s Unsat a = (λ e. a, λ e. refl)
answer_refuted budget s (Spent conflicts) a = (λ e. absurd (cc), λ e. let o = a.0 in absurd (cc))

pub sat_refuted : (is_refuted : Bool) → is_refuted ≡ false → Sat ≡ Unsat ↔ is_refuted ≡ true
sat_refuted is_refuted still_open = (λ e. absurd (cc), λ e. absurd (cc))

-- the answers are different
pub sat_is_not_unsat : Sat ≢ Unsat
sat_is_not_unsat e = cc

pub sat_is_not_spent : (conflicts : ℕ) → Sat ≢ Spent conflicts
sat_is_not_spent conflicts e = cc

pub unsat_is_not_spent : (conflicts : ℕ) → Unsat ≢ Spent conflicts
unsat_is_not_spent conflicts e = cc

-- what the answer `Spent` says
spent_facts : (budget : ℕ) (s : SolverState) (answer : Answer) (conflicts : ℕ) → AnswersSolve budget s answer → answer ≡ Spent conflicts
    → (s.is_refuted ≡ false) × AreSpentConflicts s.clauses (results s.log) budget conflicts
spent_facts budget s answer conflicts a e = subst (AnswersSolve budget s) e a

pub spent_reported : (budget : ℕ) (s : SolverState) (answer : Answer) (conflicts : ℕ) → AnswersSolve budget s answer → answer ≡ Spent conflicts → conflicts ≡ budget
spent_reported budget s answer conflicts a e = (spent_facts budget s answer conflicts a e).1.reported

pub spent_counted : (budget : ℕ) (s : SolverState) (answer : Answer) (conflicts : ℕ) → AnswersSolve budget s answer → answer ≡ Spent conflicts → length (learned s) ≡ budget
spent_counted budget s answer conflicts a e =
    let facts = spent_facts budget s answer conflicts a e in
    ap (λ (b : Bool). length (learned_from b (results s.log))) facts.0 ∙ facts.1.counted

pub spent_failing : (budget : ℕ) (s : SolverState) (answer : Answer) (conflicts : ℕ) → AnswersSolve budget s answer → answer ≡ Spent conflicts
    → (decisions : List SatLit) × AreFailingDecisions (s.clauses ++ learned s) decisions
spent_failing budget s answer conflicts a e =
    let facts = spent_facts budget s answer conflicts a e in
    (facts.1.decisions, subst (λ (b : Bool). AreFailingDecisions (s.clauses ++ learned_from b (results s.log)) facts.1.decisions) (sym facts.0) facts.1.failing)

-- enough was allowed for each clause over some variables
pub spent_enough : (budget : ℕ) (s : SolverState) (answer : Answer) (conflicts : ℕ) (variables : List Var) → AnswersSolve budget s answer → AreAmong variables s.clauses → 3 ^ length variables ≤ budget
    → answer ≢ Spent conflicts
spent_enough budget s answer conflicts variables a among enough e =
    let few = (spent_facts budget s answer conflicts a e).1.few variables among in absurd (omega (arith, few, enough))

-- the empty clause is reached
pub propagated_of : (values : List Bool) (s : Learner) → IsLearner s → s.is_refuted ≡ true → ReachesFalse (s.clauses ++ learned (state_with values s)) []
propagated_of values s l e = subst (λ (b : Bool). ReachesFalse (s.clauses ++ learned_from b (results s.log)) []) (sym e) (l.refuted e).propagated
