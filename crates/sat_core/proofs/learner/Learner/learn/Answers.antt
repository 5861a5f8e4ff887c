use Rattle.std.proofs.Common.{◌≡◌, [], ◌∷◌, ◌++◌, List, length, refl, sym, ap, ◌∙◌, subst, length-append}
use Rattle.sat_base.specs.declared.literal.SatLit.{SatLit}
use Rattle.sat_log.specs.Chains.{results}
use Rattle.sat_log.specs.Propagation.{IsNew}
use Rattle.sat_propagate.specs.Internal.Propagator.{texts}
use Rattle.sat_propagate.specs.Internal.Trail.{TrailState}
use Rattle.std.proofs.lemmas.Option.{same_Some}
use Rattle.sat_core.specs.Internal.Learner.{IsNamedPropagator, AreLearned, IsLearnerOf}
use Rattle.sat_core.proofs.NameLaws.{ready_appended, ready_same, right_same, appended_results}
use Rattle.sat_core.proofs.LearnerLaws.{learned_more, learned_open, IsNew-fewer, Grew-same, Grew-pushed}
use Rattle.sat_core.proofs.LearnerSteps.{learner_logged, learner_kept, Includes-same}
use Rattle.sat_log.specs.declared.log.LogEntry.{LogEntry}
use Rattle.sat_core.proofs.learner.Learner.learn.Goals as goal

pub returns-in_err-push-clause-grew : goal.returns-in_err-push-clause-grew
returns-in_err-push-clause-grew c = Grew-same c.args.self.now _ refl refl c.in_err-push.ensures.err

pub returns-clause-learner : goal.returns-clause-learner
returns-clause-learner c =
    let s = c.args.self.now in
    let l = c.requires.learner in
    let learns = c.requires.learns in
    let after = c.push.new.self in
    let bumped = c.bump.new.self in
    let are : results after ≡ results s.log ++ learns.outcome ∷ [] =
    appended_results s.clauses s.log after c.args.chain learns.outcome (learns.derived s.clauses (results s.log) l.ready.named) c.in_ok-push.ensures.ok in
    let known : AreLearned s.clauses (results s.log) = subst (AreLearned s.clauses) (learned_open s.is_refuted (results s.log) c.requires.open) l.of_learned in
    let ready : IsNamedPropagator s.clauses (results after) s.propagator s.names.items s.marks.marked =
    ready_appended s.clauses s.log after s.propagator s.names.items s.marks.marked c.args.chain l.ready c.in_ok-push.ensures.ok in
    let same : texts bumped.clauses.items ≡ texts s.propagator.clauses.items = ap texts c.bump.ensures.clauses in
    learner_kept s.clauses after s.is_refuted s.propagator bumped s.names.items s.names.items s.marks.marked s.marks.marked s.inserted_clauses s.inserted_results
    (ready_same s.clauses (results after) s.propagator bumped s.names.items s.marks.marked
    (right_same s.propagator bumped c.bump.ensures.trail c.bump.ensures.processed c.bump.ensures.clauses c.bump.ensures.lists l.ready.right)
    (ap (λ (t : TrailState). length t.phases) c.bump.ensures.trail) same ready)
    (Includes-same (texts s.propagator.clauses.items) (texts bumped.clauses.items) same)
    (learner_logged s.clauses s.log after s.is_refuted s.propagator s.names.items s.marks.marked s.inserted_clauses s.inserted_results learns.outcome c.requires.open ready c.push.ensures.right are
    (learned_more s.clauses (results s.log) s.propagator s.names.items s.marks.marked learns.outcome l.ready known c.requires.included learns.new learns.once learns.occurring)
    (IsNew-fewer (s.clauses ++ results s.log) (texts s.propagator.clauses.items) learns.outcome c.requires.included learns.new) l)

pub returns-clause-grew : goal.returns-clause-grew
returns-clause-grew c =
    let s = c.args.self.now in
    let learns = c.requires.learns in
    let appends = c.in_ok-push.ensures.ok in
    let is : learns.outcome ≡ appends.outcome = same_Some _ _ (sym (learns.derived s.clauses (results s.log) c.requires.learner.ready.named) ∙ appends.derived) in
    Grew-pushed s _ (record { chain = c.args.chain; result = appends.outcome }) refl (ap (λ (t : TrailState). length t.phases) c.bump.ensures.trail) appends.appended
    (λ filled. subst (λ (o : List SatLit). IsNew (s.clauses ++ results s.log) o) is
    (IsNew-fewer (s.clauses ++ results s.log) (texts s.propagator.clauses.items) learns.outcome c.requires.included learns.new))

pub push-requires-clause-right : goal.push-requires-clause-right
push-requires-clause-right c = c.requires.learner.logged

pub returns-in_err-push-clause-learner : goal.returns-in_err-push-clause-learner
returns-in_err-push-clause-learner c =
    let s = c.args.self.now in
    subst (λ (log : List LogEntry). IsLearnerOf s.clauses log s.is_refuted s.propagator s.names.items s.marks.marked s.inserted_clauses s.inserted_results) (sym c.in_err-push.ensures.err) c.requires.learner

pub returns-in_err-push-clause-refuted : goal.returns-in_err-push-clause-refuted
returns-in_err-push-clause-refuted c = refl

pub returns-in_err-push-clause-inserted_clauses : goal.returns-in_err-push-clause-inserted_clauses
returns-in_err-push-clause-inserted_clauses c = refl

pub returns-in_err-push-clause-inserted_results : goal.returns-in_err-push-clause-inserted_results
returns-in_err-push-clause-inserted_results c = refl

pub returns-clause-refuted : goal.returns-clause-refuted
returns-clause-refuted c = refl

pub returns-clause-inserted_clauses : goal.returns-clause-inserted_clauses
returns-clause-inserted_clauses c = refl

pub returns-clause-inserted_results : goal.returns-clause-inserted_results
returns-clause-inserted_results c = refl

pub returns-clause-longer : goal.returns-clause-longer
returns-clause-longer c =
    let appends = c.in_ok-push.ensures.ok in
    ap (λ (log : List LogEntry). length log) appends.appended ∙ length-append c.args.self.now.log (record { chain = c.args.chain; result = appends.outcome } ∷ [])
