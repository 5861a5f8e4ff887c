use Rattle.std.proofs.Common.{◌≡◌, ℕ, Bool, false, List, length, refl, sym, ap, ◌∙◌, subst, arith}
use Rattle.std.proofs.lemmas.List.{length-map}
use Rattle.sat_base.specs.declared.literal.SatLit.{SatLit}
use Rattle.sat_log.specs.declared.log.LogEntry.{LogEntry}
use Rattle.sat_log.specs.Chains.{results}
use Rattle.sat_propagate.specs.Internal.Propagator.{texts}
use Rattle.sat_core.proofs.LearnerLaws.{learned_open, Grew-same, Grew-trans}
use Rattle.sat_core.proofs.LearnerSteps.{learner_same}
use Rattle.sat_core.specs.Internal.Learner.{AreOver}
use Rattle.std.specs.Prelude.{IsSome, Option}
use Rattle.std.proofs.lemmas.Option.{same_Some}
use Rattle.sat_core.specs.declared.learner.Answer.{Answer}
use Rattle.std.proofs.lemmas.Result.{IfOk-from_err}
use Rattle.sat_core.proofs.learner.Learner.solve.Goals as goal

pub loop-answer-init : goal.loop-answer-init
loop-answer-init c = record {
  learner = c.requires.learner;
  still_open = c.requires.open;
  within = c.requires.budget;
  grew = Grew-same c.args.self.now c.args.self.now refl refl refl;
  more_clauses = omega arith;
  more_results = omega arith;
}

pub returns-in_err-answer-clause-grew : goal.returns-in_err-answer-clause-grew
returns-in_err-answer-clause-grew c = Grew-trans c.args.self.now c.loop-answer.self c.step.new.self c.loop-answer.invariant.grew c.step.ensures.grew

pub returns-in-Some-clause-grew : goal.returns-in-Some-clause-grew
returns-in-Some-clause-grew c = Grew-trans c.args.self.now c.loop-answer.self c.step.new.self c.loop-answer.invariant.grew c.step.ensures.grew

pub loop-answer-preserved-then-is_due : goal.loop-answer-preserved-then-is_due
loop-answer-preserved-then-is_due c =
    let a = c.step.new.self in
    let back = c.back_to.new.self in
    let still_open : a.is_refuted ≡ false = c.in_ok-answer.ensures.open c.in_default.is in
    let phases : length back.trail.phases ≡ length a.propagator.trail.phases = ap (λ (list : List Bool). length list) c.back_to.ensures.phases in
    record {
      learner = learner_same a.clauses a.log a.is_refuted a.propagator back a.names.items a.marks.marked a.inserted_clauses a.inserted_results
          c.back_to.ensures.right phases (ap texts c.back_to.ensures.clauses) c.step.ensures.learner;
      still_open = still_open;
      within = omega (arith, c.step.ensures.within, ap (λ (list : List (List SatLit)). length list) (learned_open a.is_refuted (results a.log) still_open), length-map a.log (λ (entry : LogEntry). entry.result));
      grew = Grew-trans c.args.self.now a _ (Grew-trans c.args.self.now c.loop-answer.self a c.loop-answer.invariant.grew c.step.ensures.grew) (Grew-same a _ refl phases refl);
      more_clauses = omega (arith, c.loop-answer.invariant.more_clauses, c.step.ensures.more_clauses);
      more_results = omega (arith, c.loop-answer.invariant.more_results, c.step.ensures.more_results);
    }

pub loop-answer-preserved : goal.loop-answer-preserved
loop-answer-preserved c =
    let a = c.step.new.self in
    let still_open : a.is_refuted ≡ false = c.in_ok-answer.ensures.open c.in_default.is in
    record {
      learner = c.step.ensures.learner;
      still_open = still_open;
      within = omega (arith, c.step.ensures.within, ap (λ (list : List (List SatLit)). length list) (learned_open a.is_refuted (results a.log) still_open), length-map a.log (λ (entry : LogEntry). entry.result));
      grew = Grew-trans c.args.self.now c.loop-answer.self a c.loop-answer.invariant.grew c.step.ensures.grew;
      more_clauses = omega (arith, c.loop-answer.invariant.more_clauses, c.step.ensures.more_clauses);
      more_results = omega (arith, c.loop-answer.invariant.more_results, c.step.ensures.more_results);
    }

pub step-requires-clause-learner : goal.step-requires-clause-learner
step-requires-clause-learner c = c.loop-answer.invariant.learner

pub step-requires-clause-open : goal.step-requires-clause-open
step-requires-clause-open c = c.loop-answer.invariant.still_open

pub step-requires-clause-budget : goal.step-requires-clause-budget
step-requires-clause-budget c = c.loop-answer.invariant.within

pub step-requires-clause-over : goal.step-requires-clause-over
step-requires-clause-over c =
    let s = c.loop-answer.self in
    let grew = c.loop-answer.invariant.grew in
    subst (λ (n : ℕ). AreOver n s.clauses) (sym grew.made_same) (subst (AreOver (length c.args.self.now.propagator.trail.phases)) (sym grew.clauses_same) c.requires.over)

pub returns-in_err-answer-clause-answer : goal.returns-in_err-answer-clause-answer
returns-in_err-answer-clause-answer c = IfOk-from_err c.from_residual.result _ c.from_residual.ensures.0

pub returns-in_err-answer-clause-all_clauses : goal.returns-in_err-answer-clause-all_clauses
returns-in_err-answer-clause-all_clauses c = IfOk-from_err c.from_residual.result _ c.from_residual.ensures.0

pub returns-in_err-answer-clause-all_results : goal.returns-in_err-answer-clause-all_results
returns-in_err-answer-clause-all_results c = IfOk-from_err c.from_residual.result _ c.from_residual.ensures.0

pub returns-in-Some-clause-answer : goal.returns-in-Some-clause-answer
returns-in-Some-clause-answer c = c.in_ok-answer.ensures.answer c.in-Some.answer c.in-Some.is

pub returns-in-Some-clause-all_clauses : goal.returns-in-Some-clause-all_clauses
returns-in-Some-clause-all_clauses c = λ other. c.in_ok-answer.ensures.all_clauses (λ e. other (same_Some _ _ (sym c.in-Some.is ∙ e)))

pub returns-in-Some-clause-all_results : goal.returns-in-Some-clause-all_results
returns-in-Some-clause-all_results c =
    λ other.
    c.in_ok-answer.ensures.all_results (λ e. other (same_Some _ _ (sym c.in-Some.is ∙ e)))
    ∙ ap (λ (log : List LogEntry). length log) (sym (c.in_ok-answer.ensures.log (subst (λ (o : Option Answer). IsSome o) (sym c.in-Some.is) refl) (λ e. other (same_Some _ _ (sym c.in-Some.is ∙ e)))))

pub back_to-requires : goal.back_to-requires
back_to-requires c = record { right = c.step.ensures.learner.ready.right }

pub returns-in_err-answer-clause-learner : goal.returns-in_err-answer-clause-learner
returns-in_err-answer-clause-learner c = c.step.ensures.learner

pub returns-in_err-answer-clause-within : goal.returns-in_err-answer-clause-within
returns-in_err-answer-clause-within c = c.step.ensures.within

pub returns-in_err-answer-clause-more_clauses : goal.returns-in_err-answer-clause-more_clauses
returns-in_err-answer-clause-more_clauses c = omega (arith, c.loop-answer.invariant.more_clauses, c.step.ensures.more_clauses)

pub returns-in_err-answer-clause-more_results : goal.returns-in_err-answer-clause-more_results
returns-in_err-answer-clause-more_results c = omega (arith, c.loop-answer.invariant.more_results, c.step.ensures.more_results)

pub returns-in-Some-clause-learner : goal.returns-in-Some-clause-learner
returns-in-Some-clause-learner c = c.step.ensures.learner

pub returns-in-Some-clause-within : goal.returns-in-Some-clause-within
returns-in-Some-clause-within c = c.step.ensures.within

pub returns-in-Some-clause-more_clauses : goal.returns-in-Some-clause-more_clauses
returns-in-Some-clause-more_clauses c = omega (arith, c.loop-answer.invariant.more_clauses, c.step.ensures.more_clauses)

pub returns-in-Some-clause-more_results : goal.returns-in-Some-clause-more_results
returns-in-Some-clause-more_results c = omega (arith, c.loop-answer.invariant.more_results, c.step.ensures.more_results)

pub loop-answer-smaller-then-is_due : goal.loop-answer-smaller-then-is_due
loop-answer-smaller-then-is_due c =
    let a = c.step.new.self in
    let still_open : a.is_refuted ≡ false = c.in_ok-answer.ensures.open c.in_default.is in
    omega (arith, c.in_ok-answer.ensures.longer c.in_default.is, c.step.ensures.within, ap (λ (list : List (List SatLit)). length list) (learned_open a.is_refuted (results a.log) still_open), length-map a.log (λ (entry : LogEntry). entry.result))

pub loop-answer-smaller : goal.loop-answer-smaller
loop-answer-smaller c =
    let a = c.step.new.self in
    let still_open : a.is_refuted ≡ false = c.in_ok-answer.ensures.open c.in_default.is in
    omega (arith, c.in_ok-answer.ensures.longer c.in_default.is, c.step.ensures.within, ap (λ (list : List (List SatLit)). length list) (learned_open a.is_refuted (results a.log) still_open), length-map a.log (λ (entry : LogEntry). entry.result))
