-- What a step of the search says of its log and its answer.
use Rattle.std.proofs.Common.{◌≡◌, ◌≢◌, ◌≤◌, ◌+◌, ℕ, Bool, true, false, List, [], ◌∷◌, ◌++◌, Some, length, sym, ap, ◌∙◌, subst, arith}
use Rattle.std.proofs.lemmas.List.{length-map}
use Rattle.std.proofs.lemmas.Option.{same_Some}
use Rattle.sat_base.specs.declared.literal.SatLit.{SatLit}
use Rattle.sat_log.specs.declared.log.LogEntry.{LogEntry}
use Rattle.sat_log.specs.Chains.{results}
use Rattle.sat_core.specs.declared.learner.Learner.{Learner}
use Rattle.sat_core.specs.declared.learner.Answer.{Answer}
use Rattle.sat_core.specs.declared.learner.Answer.TheVariants.{Unsat}
use Rattle.sat_core.specs.Solver.{SolverState, learned_from}
use Rattle.sat_core.specs.Internal.Learner.{AnswersSolve, AreOver, IsUnlearned}
use Rattle.sat_core.proofs.LearnerLaws.{learned_open, learned_pushed}

-- how many clauses of a log were learned
open_count : (is_refuted : Bool) (log : List LogEntry) → is_refuted ≡ false → length (learned_from is_refuted (results log)) ≡ length log
open_count is_refuted log still_open = ap (λ (list : List (List SatLit)). length list) (learned_open is_refuted (results log) still_open) ∙ length-map log (λ (entry : LogEntry). entry.result)

-- the same log
pub within_open : (is_refuted : Bool) (log before : List LogEntry) (budget : ℕ) → is_refuted ≡ false → log ≡ before → length before ≤ budget → length (learned_from is_refuted (results log)) ≤ budget
within_open is_refuted log before budget still_open same h = omega (arith, h, ap (λ (list : List LogEntry). length list) same, open_count is_refuted log still_open)

-- the empty clause more
pub within_refuted : (is_refuted : Bool) (log before : List LogEntry) (budget : ℕ) → is_refuted ≡ true → results log ≡ results before ++ [] ∷ [] → length before ≤ budget
    → length (learned_from is_refuted (results log)) ≤ budget
within_refuted is_refuted log before budget is are h =
    let learned_is : learned_from is_refuted (results log) ≡ results before = ap (λ (b : Bool). learned_from b (results log)) is ∙ ap (learned_from true) are ∙ learned_pushed (results before) [] in
    omega (arith, h, ap (λ (list : List (List SatLit)). length list) learned_is, length-map before (λ (entry : LogEntry). entry.result))

-- one clause more, where the budget was not spent
pub within_learned : (was is : Bool) (before log : List LogEntry) (budget conflicts : ℕ) → was ≡ false → is ≡ was → length before ≤ budget → conflicts ≡ length (learned_from was (results before)) → conflicts ≢ budget
    → length log ≡ length before + 1 → length (learned_from is (results log)) ≤ budget
within_learned was is before log budget conflicts still_open same h counted unspent longer =
    omega (arith, h, counted, unspent, longer, open_count was before still_open, open_count is log (same ∙ still_open))

pub unsat_answer : (budget : ℕ) (s : SolverState) (answer : Answer) → Some Unsat ≡ Some answer → s.is_refuted ≡ true → AnswersSolve budget s answer
unsat_answer budget s answer e refuted = subst (AnswersSolve budget s) (same_Some Unsat answer e) refuted

-- the variables of the same clauses are made
pub over_kept : (before after : Learner) → IsUnlearned before after → AreOver (length before.propagator.trail.phases) before.clauses → AreOver (length after.propagator.trail.phases) after.clauses
over_kept before after same over =
    subst (λ (n : ℕ). AreOver n after.clauses) (sym same.made_same) (subst (AreOver (length before.propagator.trail.phases)) (sym same.clauses_same) over)
