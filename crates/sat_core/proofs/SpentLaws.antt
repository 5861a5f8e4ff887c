-- What a conflict shows where the budget is spent.
use Rattle.std.proofs.Common.{◌≡◌, ◌<◌, ℕ, Bool, false, List, [], ◌∷◌, ◌++◌, Some, length, sym, subst, arith, length-append}
use Rattle.std.proofs.lemmas.Option.{same_Some}
use Rattle.sat_base.specs.declared.literal.SatLit.{SatLit}
use Rattle.sat_base.specs.Truth.{assigned, AllTrue}
use Rattle.sat_log.specs.declared.chain.Premise.{Premise}
use Rattle.sat_log.specs.declared.chain.Chain.{Chain}
use Rattle.sat_log.specs.declared.log.LogEntry.{LogEntry}
use Rattle.sat_log.specs.Chains.{results}
use Rattle.sat_log.specs.Propagation.{Includes}
use Rattle.sat_propagate.specs.Internal.Trail.{IsTrail}
use Rattle.sat_propagate.specs.Internal.Propagator.{IsConflict, texts}
use Rattle.sat_propagate.specs.declared.propagator.Propagator.{Propagator}
use Rattle.sat_core.specs.declared.learner.Answer.{Answer}
use Rattle.sat_core.specs.declared.learner.Answer.TheVariants.{Sat, Spent}
use Rattle.sat_core.specs.Solver.{SolverState}
use Rattle.sat_core.specs.Internal.Learned.{Learns}
use Rattle.sat_core.specs.Internal.Learner.{IsNamedPropagator, AreLearned, AreSpentConflicts, AnswersSolve}
use Rattle.sat_core.proofs.LearnerLaws.{learned_more, learned_count}
use Rattle.sat_core.proofs.DecisionLaws.{decisions_fail}

pub spent_of : (clauses some : List (List SatLit)) (propagator : Propagator) (names : List Premise) (marks : List Bool) (n : ℕ) (chain : Chain) (budget conflicts : ℕ)
    → IsNamedPropagator clauses some propagator names marks → IsTrail propagator.trail → Includes (clauses ++ some) (texts propagator.clauses.items)
    → IsConflict propagator.trail propagator.clauses.items n → 0 < length propagator.trail.starts → AreLearned clauses some → Learns propagator.clauses.items propagator.trail names chain
    → conflicts ≡ budget → length some ≡ budget → AreSpentConflicts clauses some budget conflicts
spent_of clauses some propagator names marks n chain budget conflicts ready whole included conflict decided known learns reported counted =
    let fails = decisions_fail clauses some propagator names marks n ready whole included conflict decided in record {
      reported = reported;
      counted = counted;
      decisions = fails.0;
      failing = fails.1;
      few = λ variables among. let count =
          learned_count variables clauses (some ++ learns.outcome ∷ []) among
          (learned_more clauses some propagator names marks learns.outcome ready known included learns.new learns.once learns.occurring) in
          omega (arith, count, counted, length-append some (learns.outcome ∷ []));
    }

-- the same clauses and the same log
pub spent_same : (clauses others : List (List SatLit)) (log more : List LogEntry) (budget conflicts : ℕ) → others ≡ clauses → more ≡ log → AreSpentConflicts clauses (results log) budget conflicts
    → AreSpentConflicts others (results more) budget conflicts
spent_same clauses others log more budget conflicts same_clauses same_log spent =
    subst (λ (cs : List (List SatLit)). AreSpentConflicts cs (results more) budget conflicts) (sym same_clauses)
    (subst (λ (list : List LogEntry). AreSpentConflicts clauses (results list) budget conflicts) (sym same_log) spent)

pub spent_answer : (budget : ℕ) (s : SolverState) (conflicts : ℕ) (answer : Answer) → Some (Spent conflicts) ≡ Some answer → s.is_refuted ≡ false → AreSpentConflicts s.clauses (results s.log) budget conflicts
    → AnswersSolve budget s answer
spent_answer budget s conflicts answer e still_open spent = subst (AnswersSolve budget s) (same_Some (Spent conflicts) answer e) (still_open, spent)

pub sat_answer : (budget : ℕ) (s : SolverState) (answer : Answer) → Some Sat ≡ Some answer → s.is_refuted ≡ false → AllTrue (assigned s.values) s.clauses → AnswersSolve budget s answer
sat_answer budget s answer e still_open all = subst (AnswersSolve budget s) (same_Some Sat answer e) (still_open, all)
