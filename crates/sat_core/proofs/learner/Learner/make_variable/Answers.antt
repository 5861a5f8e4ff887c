use Rattle.std.proofs.Common.{◌≡◌, ◌+◌, [], ◌∷◌, false, length, length-append, ap, ◌∙◌, arith}
use Rattle.sat_log.specs.Chains.{results}
use Rattle.sat_propagate.specs.Internal.Trail.{TrailState}
use Rattle.sat_propagate.specs.Internal.Propagator.{texts}
use Rattle.sat_core.specs.Internal.Marks.{MarkState}
use Rattle.sat_core.proofs.NameLaws.{ready_variable, ready_marks}
use Rattle.sat_core.proofs.LearnerSteps.{learner_kept, Includes-same}
use Rattle.sat_core.proofs.learner.Learner.make_variable.Goals as goal

pub returns-in_err-add_variable-2-clause-learner : goal.returns-in_err-add_variable-2-clause-learner
returns-in_err-add_variable-2-clause-learner c =
    let s = c.args.self.now in
    let after = c.add_variable-2.new.self in
    let marks : length c.add_variable.new.self.marked ≡ length s.marks.marked + 1 = ap (λ (m : MarkState). length m.marked) c.in_ok-add_variable.ensures.ok ∙ length-append s.marks.marked (false ∷ []) in
    let phases : length after.trail.phases ≡ length s.propagator.trail.phases = ap (λ (t : TrailState). length t.phases) c.in_err-add_variable-2.ensures.err in
    learner_kept s.clauses s.log s.is_refuted s.propagator after s.names.items s.names.items s.marks.marked c.add_variable.new.self.marked s.inserted_clauses s.inserted_results
    (ready_variable s.clauses (results s.log) s.propagator after s.names.items c.add_variable.new.self.marked c.add_variable-2.ensures.right
    (omega (arith, marks, phases, c.requires.learner.ready.marks_made)) c.add_variable-2.ensures.clauses
    (ready_marks s.clauses (results s.log) s.propagator s.names.items s.marks.marked c.add_variable.new.self.marked (omega (arith, marks)) c.requires.learner.ready))
    (Includes-same (texts s.propagator.clauses.items) (texts after.clauses.items) (ap texts c.add_variable-2.ensures.clauses)) c.requires.learner

pub returns-clause-learner : goal.returns-clause-learner
returns-clause-learner c =
    let s = c.args.self.now in
    let after = c.add_variable-2.new.self in
    let marks : length c.add_variable.new.self.marked ≡ length s.marks.marked + 1 = ap (λ (m : MarkState). length m.marked) c.in_ok-add_variable.ensures.ok ∙ length-append s.marks.marked (false ∷ []) in
    let phases : length after.trail.phases ≡ length s.propagator.trail.phases + 1 =
    ap (λ (t : TrailState). length t.phases) c.in_ok-add_variable-2.ensures.ok ∙ length-append s.propagator.trail.phases (false ∷ []) in
    learner_kept s.clauses s.log s.is_refuted s.propagator after s.names.items s.names.items s.marks.marked c.add_variable.new.self.marked s.inserted_clauses s.inserted_results
    (ready_variable s.clauses (results s.log) s.propagator after s.names.items c.add_variable.new.self.marked c.add_variable-2.ensures.right
    (omega (arith, marks, phases, c.requires.learner.ready.marks_made)) c.add_variable-2.ensures.clauses
    (ready_marks s.clauses (results s.log) s.propagator s.names.items s.marks.marked c.add_variable.new.self.marked (omega (arith, marks)) c.requires.learner.ready))
    (Includes-same (texts s.propagator.clauses.items) (texts after.clauses.items) (ap texts c.add_variable-2.ensures.clauses)) c.requires.learner
