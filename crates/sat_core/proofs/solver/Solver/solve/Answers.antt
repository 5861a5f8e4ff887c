use Rattle.std.proofs.Common.{◌≡◌, ◌≤◌, ◌++◌, ◌∷◌, [], true, length, refl, sym, ap, subst, ◌∙◌}
use Rattle.std.proofs.lemmas.Result.{IfOk-from_err}
use Rattle.sat_base.specs.Truth.{Unsat}
use Rattle.sat_log.specs.Chains.{results}
use Rattle.sat_log.specs.Propagation.{ReachesFalse}
use Rattle.sat_core.specs.Internal.Learner.{AnswersSolve, seen, state_with}
use Rattle.sat_core.specs.Solver.{SolverState, learned, SolverGrows}
use Rattle.sat_propagate.specs.Internal.Propagator.{texts}
use Rattle.sat_propagate.specs.Internal.Trail.{TrailState}
use Rattle.sat_core.proofs.LearnerSteps.{learner_same}
use Rattle.sat_core.proofs.NameLaws.{right_same}
use Rattle.sat_core.proofs.SolverLaws.{sound_of, unsat_of, propagated_of, grows_of, grows_same, grows_shown, grows_made, answer_refuted, sat_refuted, sat_is_not_unsat, sat_is_not_spent, unsat_is_not_spent, spent_reported, spent_counted, spent_failing, spent_enough}
use Rattle.sat_core.proofs.solver.Solver.solve.Goals as goal

pub returns-then-self-clause-unsat : goal.returns-then-self-clause-unsat
returns-then-self-clause-unsat c = λ e. subst (λ (s : SolverState). Unsat s.clauses) c.self.view_is (unsat_of c.self.inside.learner c.self.invariant.learns c.if-self.true)

pub returns-then-self-clause-grows : goal.returns-then-self-clause-grows
returns-then-self-clause-grows c = grows_same c.args.self.now

pub satisfy-requires-clause-over : goal.satisfy-requires-clause-over
satisfy-requires-clause-over c = c.self.invariant.over

pub returns-in_err-satisfy-clause-grows : goal.returns-in_err-satisfy-clause-grows
returns-in_err-satisfy-clause-grows c =
    let s = c.self.inside in
    let keeper = c.satisfy.new.self in
    subst (λ (state : SolverState). SolverGrows state (state_with keeper.values.items s.learner)) c.self.view_is
    (grows_shown s.learner s.learner s.keeper.values.items keeper.values.items c.satisfy.ensures.made (grows_same (seen s.learner)))

pub returns-then-branch-clause-grows : goal.returns-then-branch-clause-grows
returns-then-branch-clause-grows c =
    let s = c.self.inside in
    let keeper = c.satisfy.new.self in
    subst (λ (state : SolverState). SolverGrows state (state_with keeper.values.items s.learner)) c.self.view_is
    (grows_shown s.learner s.learner s.keeper.values.items keeper.values.items c.satisfy.ensures.made (grows_same (seen s.learner)))

pub returns-in_err-make_variables-clause-grows : goal.returns-in_err-make_variables-clause-grows
returns-in_err-make_variables-clause-grows c =
    let s = c.self.inside in
    let made = c.make_variables.new.self in
    let keeper = c.satisfy.new.self in
    subst (λ (state : SolverState). SolverGrows state (state_with keeper.values.items made)) c.self.view_is
    (grows_made s.learner made made s.keeper.values.items keeper.values.items c.make_variables.ensures.clauses c.make_variables.ensures.log c.make_variables.ensures.refuted c.satisfy.ensures.made (grows_same (seen made)))

pub solve-requires-clause-learner : goal.solve-requires-clause-learner
solve-requires-clause-learner c =
    let s = c.make_variables.new.self in
    let wished = c.wish.new.self in
    learner_same s.clauses s.log s.is_refuted s.propagator wished s.names.items s.marks.marked s.inserted_clauses s.inserted_results
    (right_same s.propagator wished c.wish.ensures.trail c.wish.ensures.processed c.wish.ensures.clauses c.wish.ensures.lists c.make_variables.ensures.learner.ready.right)
    (ap (λ (t : TrailState). length t.phases) c.wish.ensures.trail) (ap texts c.wish.ensures.clauses) c.make_variables.ensures.learner

pub returns-in_err-answer-clause-grows : goal.returns-in_err-answer-clause-grows
returns-in_err-answer-clause-grows c =
    let s = c.self.inside in
    let made = record c.make_variables.new.self { propagator = c.wish.new.self } in
    let keeper = c.satisfy.new.self in
    subst (λ (state : SolverState). SolverGrows state (state_with keeper.values.items c.solve.new.self)) c.self.view_is
    (grows_made s.learner made c.solve.new.self s.keeper.values.items keeper.values.items c.make_variables.ensures.clauses c.make_variables.ensures.log c.make_variables.ensures.refuted c.satisfy.ensures.made
    (grows_of made c.solve.new.self (c.make_variables.ensures.refuted ∙ c.if-self.false) c.solve.ensures.learner c.solve.ensures.grew))

pub returns-then-ne-clause-unsat : goal.returns-then-ne-clause-unsat
returns-then-ne-clause-unsat c = λ e.
    let refuted : c.solve.new.self.is_refuted ≡ true = subst (AnswersSolve c.args.budget (seen c.solve.new.self)) e c.in_ok-answer.ensures.answer in
    unsat_of c.solve.new.self c.solve.ensures.learner refuted

pub returns-then-ne-clause-grows : goal.returns-then-ne-clause-grows
returns-then-ne-clause-grows c =
    let s = c.self.inside in
    let made = record c.make_variables.new.self { propagator = c.wish.new.self } in
    let keeper = c.satisfy.new.self in
    subst (λ (state : SolverState). SolverGrows state (state_with keeper.values.items c.solve.new.self)) c.self.view_is
    (grows_made s.learner made c.solve.new.self s.keeper.values.items keeper.values.items c.make_variables.ensures.clauses c.make_variables.ensures.log c.make_variables.ensures.refuted c.satisfy.ensures.made
    (grows_of made c.solve.new.self (c.make_variables.ensures.refuted ∙ c.if-self.false) c.solve.ensures.learner c.solve.ensures.grew))

pub returns-in_err-adopt-clause-grows : goal.returns-in_err-adopt-clause-grows
returns-in_err-adopt-clause-grows c =
    let s = c.self.inside in
    let made = record c.make_variables.new.self { propagator = c.wish.new.self } in
    let keeper = c.adopt.new.self in
    subst (λ (state : SolverState). SolverGrows state (state_with keeper.values.items c.solve.new.self)) c.self.view_is
    (grows_made s.learner made c.solve.new.self s.keeper.values.items keeper.values.items c.make_variables.ensures.clauses c.make_variables.ensures.log c.make_variables.ensures.refuted
    (c.adopt.ensures.made ∙ c.satisfy.ensures.made) (grows_of made c.solve.new.self (c.make_variables.ensures.refuted ∙ c.if-self.false) c.solve.ensures.learner c.solve.ensures.grew))

pub returns-clause-grows : goal.returns-clause-grows
returns-clause-grows c =
    let s = c.self.inside in
    let made = record c.make_variables.new.self { propagator = c.wish.new.self } in
    let keeper = c.adopt.new.self in
    subst (λ (state : SolverState). SolverGrows state (state_with keeper.values.items c.solve.new.self)) c.self.view_is
    (grows_made s.learner made c.solve.new.self s.keeper.values.items keeper.values.items c.make_variables.ensures.clauses c.make_variables.ensures.log c.make_variables.ensures.refuted
    (c.adopt.ensures.made ∙ c.satisfy.ensures.made) (grows_of made c.solve.new.self (c.make_variables.ensures.refuted ∙ c.if-self.false) c.solve.ensures.learner c.solve.ensures.grew))

pub returns-then-self-clause-sat : goal.returns-then-self-clause-sat
returns-then-self-clause-sat c = λ e. absurd (sat_is_not_unsat (sym e))

pub returns-then-self-clause-ends : goal.returns-then-self-clause-ends
returns-then-self-clause-ends c = λ _. subst (λ (s : SolverState). results s.log ≡ learned s ++ [] ∷ []) c.self.view_is ((sound_of c.self.inside.keeper.values.items c.self.inside.learner c.self.invariant.learns).ends c.if-self.true)

pub returns-then-self-clause-refuted : goal.returns-then-self-clause-refuted
returns-then-self-clause-refuted c = (λ _. subst (λ (s : SolverState). s.is_refuted ≡ true) c.self.view_is c.if-self.true, λ _. refl)

pub returns-then-self-clause-propagated : goal.returns-then-self-clause-propagated
returns-then-self-clause-propagated c = λ _. subst (λ (s : SolverState). ReachesFalse (s.clauses ++ learned s) []) c.self.view_is (propagated_of c.self.inside.keeper.values.items c.self.inside.learner c.self.invariant.learns c.if-self.true)

pub returns-then-self-clause-reported : goal.returns-then-self-clause-reported
returns-then-self-clause-reported c = λ conflicts e. absurd (unsat_is_not_spent conflicts e)

pub returns-then-self-clause-counted : goal.returns-then-self-clause-counted
returns-then-self-clause-counted c = λ conflicts e. absurd (unsat_is_not_spent conflicts e)

pub returns-then-self-clause-failing : goal.returns-then-self-clause-failing
returns-then-self-clause-failing c = λ conflicts e. absurd (unsat_is_not_spent conflicts e)

pub returns-then-self-clause-enough : goal.returns-then-self-clause-enough
returns-then-self-clause-enough c = λ conflicts _ _ _ e. absurd (unsat_is_not_spent conflicts e)

pub returns-then-self-clause-within : goal.returns-then-self-clause-within
returns-then-self-clause-within c = c.requires.budget

pub returns-in_err-satisfy-clause-sat : goal.returns-in_err-satisfy-clause-sat
returns-in_err-satisfy-clause-sat c = IfOk-from_err c.from_residual.result _ c.from_residual.ensures.0

pub returns-in_err-satisfy-clause-unsat : goal.returns-in_err-satisfy-clause-unsat
returns-in_err-satisfy-clause-unsat c = IfOk-from_err c.from_residual.result _ c.from_residual.ensures.0

pub returns-in_err-satisfy-clause-ends : goal.returns-in_err-satisfy-clause-ends
returns-in_err-satisfy-clause-ends c = IfOk-from_err c.from_residual.result _ c.from_residual.ensures.0

pub returns-in_err-satisfy-clause-refuted : goal.returns-in_err-satisfy-clause-refuted
returns-in_err-satisfy-clause-refuted c = IfOk-from_err c.from_residual.result _ c.from_residual.ensures.0

pub returns-in_err-satisfy-clause-propagated : goal.returns-in_err-satisfy-clause-propagated
returns-in_err-satisfy-clause-propagated c = IfOk-from_err c.from_residual.result _ c.from_residual.ensures.0

pub returns-in_err-satisfy-clause-reported : goal.returns-in_err-satisfy-clause-reported
returns-in_err-satisfy-clause-reported c = IfOk-from_err c.from_residual.result _ c.from_residual.ensures.0

pub returns-in_err-satisfy-clause-counted : goal.returns-in_err-satisfy-clause-counted
returns-in_err-satisfy-clause-counted c = IfOk-from_err c.from_residual.result _ c.from_residual.ensures.0

pub returns-in_err-satisfy-clause-failing : goal.returns-in_err-satisfy-clause-failing
returns-in_err-satisfy-clause-failing c = IfOk-from_err c.from_residual.result _ c.from_residual.ensures.0

pub returns-in_err-satisfy-clause-enough : goal.returns-in_err-satisfy-clause-enough
returns-in_err-satisfy-clause-enough c = IfOk-from_err c.from_residual.result _ c.from_residual.ensures.0

pub returns-in_err-make_variables-clause-sat : goal.returns-in_err-make_variables-clause-sat
returns-in_err-make_variables-clause-sat c = IfOk-from_err c.from_residual-in_err-make_variables.result _ c.from_residual-in_err-make_variables.ensures.0

pub returns-in_err-make_variables-clause-unsat : goal.returns-in_err-make_variables-clause-unsat
returns-in_err-make_variables-clause-unsat c = IfOk-from_err c.from_residual-in_err-make_variables.result _ c.from_residual-in_err-make_variables.ensures.0

pub returns-in_err-make_variables-clause-ends : goal.returns-in_err-make_variables-clause-ends
returns-in_err-make_variables-clause-ends c = IfOk-from_err c.from_residual-in_err-make_variables.result _ c.from_residual-in_err-make_variables.ensures.0

pub returns-in_err-make_variables-clause-refuted : goal.returns-in_err-make_variables-clause-refuted
returns-in_err-make_variables-clause-refuted c = IfOk-from_err c.from_residual-in_err-make_variables.result _ c.from_residual-in_err-make_variables.ensures.0

pub returns-in_err-make_variables-clause-propagated : goal.returns-in_err-make_variables-clause-propagated
returns-in_err-make_variables-clause-propagated c = IfOk-from_err c.from_residual-in_err-make_variables.result _ c.from_residual-in_err-make_variables.ensures.0

pub returns-in_err-make_variables-clause-reported : goal.returns-in_err-make_variables-clause-reported
returns-in_err-make_variables-clause-reported c = IfOk-from_err c.from_residual-in_err-make_variables.result _ c.from_residual-in_err-make_variables.ensures.0

pub returns-in_err-make_variables-clause-counted : goal.returns-in_err-make_variables-clause-counted
returns-in_err-make_variables-clause-counted c = IfOk-from_err c.from_residual-in_err-make_variables.result _ c.from_residual-in_err-make_variables.ensures.0

pub returns-in_err-make_variables-clause-failing : goal.returns-in_err-make_variables-clause-failing
returns-in_err-make_variables-clause-failing c = IfOk-from_err c.from_residual-in_err-make_variables.result _ c.from_residual-in_err-make_variables.ensures.0

pub returns-in_err-make_variables-clause-enough : goal.returns-in_err-make_variables-clause-enough
returns-in_err-make_variables-clause-enough c = IfOk-from_err c.from_residual-in_err-make_variables.result _ c.from_residual-in_err-make_variables.ensures.0

pub returns-in_err-answer-clause-sat : goal.returns-in_err-answer-clause-sat
returns-in_err-answer-clause-sat c = IfOk-from_err c.from_residual-in_err-answer.result _ c.from_residual-in_err-answer.ensures.0

pub returns-in_err-answer-clause-unsat : goal.returns-in_err-answer-clause-unsat
returns-in_err-answer-clause-unsat c = IfOk-from_err c.from_residual-in_err-answer.result _ c.from_residual-in_err-answer.ensures.0

pub returns-in_err-answer-clause-ends : goal.returns-in_err-answer-clause-ends
returns-in_err-answer-clause-ends c = IfOk-from_err c.from_residual-in_err-answer.result _ c.from_residual-in_err-answer.ensures.0

pub returns-in_err-answer-clause-refuted : goal.returns-in_err-answer-clause-refuted
returns-in_err-answer-clause-refuted c = IfOk-from_err c.from_residual-in_err-answer.result _ c.from_residual-in_err-answer.ensures.0

pub returns-in_err-answer-clause-propagated : goal.returns-in_err-answer-clause-propagated
returns-in_err-answer-clause-propagated c = IfOk-from_err c.from_residual-in_err-answer.result _ c.from_residual-in_err-answer.ensures.0

pub returns-in_err-answer-clause-reported : goal.returns-in_err-answer-clause-reported
returns-in_err-answer-clause-reported c = IfOk-from_err c.from_residual-in_err-answer.result _ c.from_residual-in_err-answer.ensures.0

pub returns-in_err-answer-clause-counted : goal.returns-in_err-answer-clause-counted
returns-in_err-answer-clause-counted c = IfOk-from_err c.from_residual-in_err-answer.result _ c.from_residual-in_err-answer.ensures.0

pub returns-in_err-answer-clause-failing : goal.returns-in_err-answer-clause-failing
returns-in_err-answer-clause-failing c = IfOk-from_err c.from_residual-in_err-answer.result _ c.from_residual-in_err-answer.ensures.0

pub returns-in_err-answer-clause-enough : goal.returns-in_err-answer-clause-enough
returns-in_err-answer-clause-enough c = IfOk-from_err c.from_residual-in_err-answer.result _ c.from_residual-in_err-answer.ensures.0

pub returns-in_err-adopt-clause-sat : goal.returns-in_err-adopt-clause-sat
returns-in_err-adopt-clause-sat c = IfOk-from_err c.from_residual-in_err-adopt.result _ c.from_residual-in_err-adopt.ensures.0

pub returns-in_err-adopt-clause-unsat : goal.returns-in_err-adopt-clause-unsat
returns-in_err-adopt-clause-unsat c = IfOk-from_err c.from_residual-in_err-adopt.result _ c.from_residual-in_err-adopt.ensures.0

pub returns-in_err-adopt-clause-ends : goal.returns-in_err-adopt-clause-ends
returns-in_err-adopt-clause-ends c = IfOk-from_err c.from_residual-in_err-adopt.result _ c.from_residual-in_err-adopt.ensures.0

pub returns-in_err-adopt-clause-refuted : goal.returns-in_err-adopt-clause-refuted
returns-in_err-adopt-clause-refuted c = IfOk-from_err c.from_residual-in_err-adopt.result _ c.from_residual-in_err-adopt.ensures.0

pub returns-in_err-adopt-clause-propagated : goal.returns-in_err-adopt-clause-propagated
returns-in_err-adopt-clause-propagated c = IfOk-from_err c.from_residual-in_err-adopt.result _ c.from_residual-in_err-adopt.ensures.0

pub returns-in_err-adopt-clause-reported : goal.returns-in_err-adopt-clause-reported
returns-in_err-adopt-clause-reported c = IfOk-from_err c.from_residual-in_err-adopt.result _ c.from_residual-in_err-adopt.ensures.0

pub returns-in_err-adopt-clause-counted : goal.returns-in_err-adopt-clause-counted
returns-in_err-adopt-clause-counted c = IfOk-from_err c.from_residual-in_err-adopt.result _ c.from_residual-in_err-adopt.ensures.0

pub returns-in_err-adopt-clause-failing : goal.returns-in_err-adopt-clause-failing
returns-in_err-adopt-clause-failing c = IfOk-from_err c.from_residual-in_err-adopt.result _ c.from_residual-in_err-adopt.ensures.0

pub returns-in_err-adopt-clause-enough : goal.returns-in_err-adopt-clause-enough
returns-in_err-adopt-clause-enough c = IfOk-from_err c.from_residual-in_err-adopt.result _ c.from_residual-in_err-adopt.ensures.0

pub returns-in_err-satisfy-clause-within : goal.returns-in_err-satisfy-clause-within
returns-in_err-satisfy-clause-within c = subst (λ (s : SolverState). length (learned s) ≤ c.args.budget) (sym c.self.view_is) c.requires.budget

pub returns-then-branch-clause-within : goal.returns-then-branch-clause-within
returns-then-branch-clause-within c = subst (λ (s : SolverState). length (learned s) ≤ c.args.budget) (sym c.self.view_is) c.requires.budget

pub returns-in_err-answer-clause-within : goal.returns-in_err-answer-clause-within
returns-in_err-answer-clause-within c = c.solve.ensures.within

pub returns-then-ne-clause-within : goal.returns-then-ne-clause-within
returns-then-ne-clause-within c = c.solve.ensures.within

pub returns-in_err-adopt-clause-within : goal.returns-in_err-adopt-clause-within
returns-in_err-adopt-clause-within c = c.solve.ensures.within

pub returns-clause-within : goal.returns-clause-within
returns-clause-within c = c.solve.ensures.within

pub returns-then-branch-clause-unsat : goal.returns-then-branch-clause-unsat
returns-then-branch-clause-unsat c = λ e. absurd (sat_is_not_unsat e)

pub returns-then-branch-clause-ends : goal.returns-then-branch-clause-ends
returns-then-branch-clause-ends c = λ e. absurd (sat_is_not_unsat e)

pub returns-then-branch-clause-propagated : goal.returns-then-branch-clause-propagated
returns-then-branch-clause-propagated c = λ e. absurd (sat_is_not_unsat e)

pub returns-then-branch-clause-reported : goal.returns-then-branch-clause-reported
returns-then-branch-clause-reported c = λ conflicts e. absurd (sat_is_not_spent conflicts e)

pub returns-then-branch-clause-counted : goal.returns-then-branch-clause-counted
returns-then-branch-clause-counted c = λ conflicts e. absurd (sat_is_not_spent conflicts e)

pub returns-then-branch-clause-failing : goal.returns-then-branch-clause-failing
returns-then-branch-clause-failing c = λ conflicts e. absurd (sat_is_not_spent conflicts e)

pub returns-then-branch-clause-enough : goal.returns-then-branch-clause-enough
returns-then-branch-clause-enough c = λ conflicts _ _ _ e. sat_is_not_spent conflicts e

pub returns-clause-unsat : goal.returns-clause-unsat
returns-clause-unsat c = λ e. absurd (sat_is_not_unsat e)

pub returns-clause-ends : goal.returns-clause-ends
returns-clause-ends c = λ e. absurd (sat_is_not_unsat e)

pub returns-clause-propagated : goal.returns-clause-propagated
returns-clause-propagated c = λ e. absurd (sat_is_not_unsat e)

pub returns-clause-reported : goal.returns-clause-reported
returns-clause-reported c = λ conflicts e. absurd (sat_is_not_spent conflicts e)

pub returns-clause-counted : goal.returns-clause-counted
returns-clause-counted c = λ conflicts e. absurd (sat_is_not_spent conflicts e)

pub returns-clause-failing : goal.returns-clause-failing
returns-clause-failing c = λ conflicts e. absurd (sat_is_not_spent conflicts e)

pub returns-clause-enough : goal.returns-clause-enough
returns-clause-enough c = λ conflicts _ _ _ e. sat_is_not_spent conflicts e

pub returns-then-branch-clause-refuted : goal.returns-then-branch-clause-refuted
returns-then-branch-clause-refuted c = sat_refuted c.self.inside.learner.is_refuted c.if-self.false

pub returns-then-ne-clause-ends : goal.returns-then-ne-clause-ends
returns-then-ne-clause-ends c = λ e. (sound_of c.satisfy.new.self.values.items c.solve.new.self c.solve.ensures.learner).ends (subst (AnswersSolve c.args.budget (seen c.solve.new.self)) e c.in_ok-answer.ensures.answer)

pub returns-then-ne-clause-propagated : goal.returns-then-ne-clause-propagated
returns-then-ne-clause-propagated c = λ e. propagated_of c.satisfy.new.self.values.items c.solve.new.self c.solve.ensures.learner (subst (AnswersSolve c.args.budget (seen c.solve.new.self)) e c.in_ok-answer.ensures.answer)

pub returns-then-ne-clause-refuted : goal.returns-then-ne-clause-refuted
returns-then-ne-clause-refuted c = answer_refuted c.args.budget (seen c.solve.new.self) c.in_ok-answer.answer c.in_ok-answer.ensures.answer

pub returns-then-ne-clause-reported : goal.returns-then-ne-clause-reported
returns-then-ne-clause-reported c = λ conflicts e. spent_reported c.args.budget (seen c.solve.new.self) c.in_ok-answer.answer conflicts c.in_ok-answer.ensures.answer e

pub returns-then-ne-clause-counted : goal.returns-then-ne-clause-counted
returns-then-ne-clause-counted c = λ conflicts e. spent_counted c.args.budget (seen c.solve.new.self) c.in_ok-answer.answer conflicts c.in_ok-answer.ensures.answer e

pub returns-then-ne-clause-failing : goal.returns-then-ne-clause-failing
returns-then-ne-clause-failing c = λ conflicts e. spent_failing c.args.budget (seen c.solve.new.self) c.in_ok-answer.answer conflicts c.in_ok-answer.ensures.answer e

pub returns-then-ne-clause-enough : goal.returns-then-ne-clause-enough
returns-then-ne-clause-enough c = λ conflicts variables among enough. spent_enough c.args.budget (seen c.solve.new.self) c.in_ok-answer.answer conflicts variables c.in_ok-answer.ensures.answer among enough
