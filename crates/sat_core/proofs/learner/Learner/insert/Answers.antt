use Rattle.std.proofs.Common.{◌≡◌, ◌∷◌, ◌++◌, [], List, Some, length, sym, ap, ◌∙◌, subst}
use Rattle.sat_base.specs.Literal.{IsOver}
use Rattle.sat_log.specs.declared.chain.Premise.{Premise}
use Rattle.sat_log.specs.Chains.{premise_clause, results}
use Rattle.std.proofs.lemmas.Option.{same_Some}
use Rattle.sat_log.specs.Propagation.{IsFalseIn}
use Rattle.sat_propagate.specs.Internal.Trail.{literals}
use Rattle.sat_propagate.specs.Internal.Propagator.{texts}
use Rattle.sat_core.specs.Internal.Learner.{IsNamedPropagator, IsLearnerOf}
use Rattle.sat_core.proofs.NameLaws.{ready_pushed, ready_same}
use Rattle.sat_core.proofs.LearnerSteps.{premise_over, learner_kept, Includes-same, Includes-push}
use Rattle.sat_core.proofs.learner.Learner.insert.Goals as goal

pub insert-requires-clause-over : goal.insert-requires-clause-over
insert-requires-clause-over c =
    let s = c.args.self.now in
    subst (IsOver (length s.propagator.trail.phases)) (sym c.as_slice-clause.ensures)
    (premise_over (length s.propagator.trail.phases) s.clauses s.log s.is_refuted c.args.premise c.named.result.now c.requires.open c.requires.over c.requires.learner.of_learned c.named.ensures)

pub returns-in_err-inserted-clause-learner : goal.returns-in_err-inserted-clause-learner
returns-in_err-inserted-clause-learner c =
    let s = c.args.self.now in
    let after = c.insert.new.self in
    let same : texts after.clauses.items ≡ texts s.propagator.clauses.items = ap texts c.in_err-inserted.ensures.err in
    subst (λ (names : List Premise). IsLearnerOf s.clauses s.log s.is_refuted after names s.marks.marked s.inserted_clauses s.inserted_results) (sym c.reserve.ensures.items)
    (learner_kept s.clauses s.log s.is_refuted s.propagator after s.names.items s.names.items s.marks.marked s.marks.marked s.inserted_clauses s.inserted_results
    (ready_same s.clauses (results s.log) s.propagator after s.names.items s.marks.marked c.insert.ensures.right c.insert.ensures.made same c.requires.learner.ready)
    (Includes-same (texts s.propagator.clauses.items) (texts after.clauses.items) same) c.requires.learner)

pub returns-then-inserted-clause-learner : goal.returns-then-inserted-clause-learner
returns-then-inserted-clause-learner c =
    let s = c.args.self.now in
    let after = c.insert.new.self in
    let is : premise_clause s.clauses (results s.log) c.args.premise ≡ Some c.as_slice-clause.result.now = c.named.ensures ∙ ap Some (sym c.as_slice-clause.ensures) in
    let pushed : texts after.clauses.items ≡ texts s.propagator.clauses.items ++ c.as_slice-clause.result.now ∷ [] = c.in_ok-inserted.ensures.inserted c.if-inserted.true in
    learner_kept s.clauses s.log s.is_refuted s.propagator after s.names.items c.push_reserved.new.self.items s.marks.marked s.marks.marked s.inserted_clauses s.inserted_results
    (ready_pushed s.clauses (results s.log) s.propagator after c.reserve.new.self.items c.push_reserved.new.self.items s.marks.marked c.args.premise c.as_slice-clause.result.now c.push_reserved.ensures.items
    c.insert.ensures.right c.insert.ensures.made pushed is
    (subst (λ (names : List Premise). IsNamedPropagator s.clauses (results s.log) s.propagator names s.marks.marked) (sym c.reserve.ensures.items) c.requires.learner.ready))
    (Includes-push (texts s.propagator.clauses.items) (texts after.clauses.items) c.as_slice-clause.result.now pushed) c.requires.learner

pub returns-else-inserted-clause-learner : goal.returns-else-inserted-clause-learner
returns-else-inserted-clause-learner c =
    let s = c.args.self.now in
    let after = c.insert.new.self in
    let same : texts after.clauses.items ≡ texts s.propagator.clauses.items = ap texts (c.in_ok-inserted.ensures.refused c.if-inserted.false) in
    subst (λ (names : List Premise). IsLearnerOf s.clauses s.log s.is_refuted after names s.marks.marked s.inserted_clauses s.inserted_results) (sym c.reserve.ensures.items)
    (learner_kept s.clauses s.log s.is_refuted s.propagator after s.names.items s.names.items s.marks.marked s.marks.marked s.inserted_clauses s.inserted_results
    (ready_same s.clauses (results s.log) s.propagator after s.names.items s.marks.marked c.insert.ensures.right c.insert.ensures.made same c.requires.learner.ready)
    (Includes-same (texts s.propagator.clauses.items) (texts after.clauses.items) same) c.requires.learner)

pub returns-else-inserted-clause-falsified : goal.returns-else-inserted-clause-falsified
returns-else-inserted-clause-falsified c =
    let s = c.args.self.now in
    let trail = literals c.insert.new.self.trail.steps in
    let is : premise_clause s.clauses (results s.log) c.args.premise ≡ Some c.as_slice-clause.result.now = c.named.ensures ∙ ap Some (sym c.as_slice-clause.ensures) in
    λ clause e at. subst (IsFalseIn trail) (same_Some c.as_slice-clause.result.now clause (sym is ∙ at)) (c.in_ok-inserted.ensures.falsified e)
