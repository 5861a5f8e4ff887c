use Rattle.std.proofs.Common.{◌≡◌, [], ◌∷◌, ◌++◌, List, Some, length, refl, sym, ap, ◌∙◌, subst, arith}
use Rattle.std.proofs.lemmas.Option.{same_Some}
use Rattle.sat_base.specs.declared.literal.SatLit.{SatLit}
use Rattle.sat_base.specs.Literal.{IsOver}
use Rattle.sat_log.specs.declared.chain.Premise.{Premise}
use Rattle.sat_log.specs.declared.log.LogEntry.{LogEntry}
use Rattle.sat_log.specs.Chains.{chain_result, results}
use Rattle.sat_propagate.specs.Internal.Propagator.{texts}
use Rattle.sat_core.specs.Internal.Learned.{AreNamedPremises}
use Rattle.sat_core.specs.Internal.Learner.{IsNamedPropagator, IsLearnerOf}
use Rattle.sat_core.proofs.NameLaws.{appended_results, ready_learned, ready_marks}
use Rattle.sat_core.proofs.LearnerLaws.{Grew-same, Grew-pushed}
use Rattle.sat_core.proofs.LearnerSteps.{premise_over, learner_kept, learner_refuted, Includes-same}
use Rattle.sat_core.proofs.DecisionLaws.{premise_among, root_reaches_false}
use Rattle.sat_core.proofs.learner.Learner.refute.Goals as goal

pub refuted_chain-requires-clause-over : goal.refuted_chain-requires-clause-over
refuted_chain-requires-clause-over c =
    let s = c.args.self.now in
    subst (IsOver (length s.propagator.trail.phases)) (sym c.as_slice-2.ensures)
    (premise_over (length s.propagator.trail.phases) s.clauses s.log s.is_refuted c.args.premise c.named.result.now c.requires.open c.requires.over c.requires.learner.of_learned c.named.ensures)

pub returns-in_err-chain-clause-grew : goal.returns-in_err-chain-clause-grew
returns-in_err-chain-clause-grew c = Grew-same c.args.self.now _ refl refl refl

pub returns-in_err-push-clause-learner : goal.returns-in_err-push-clause-learner
returns-in_err-push-clause-learner c =
    let s = c.args.self.now in
    let marks = c.refuted_chain.new.marks.marked in
    subst (λ (log : List LogEntry). IsLearnerOf s.clauses log s.is_refuted s.propagator s.names.items marks s.inserted_clauses s.inserted_results) (sym c.in_err-push.ensures.err)
    (learner_kept s.clauses s.log s.is_refuted s.propagator s.propagator s.names.items s.names.items s.marks.marked marks s.inserted_clauses s.inserted_results
    (ready_marks s.clauses (results s.log) s.propagator s.names.items s.marks.marked marks (omega (arith, c.refuted_chain.ensures.made)) c.requires.learner.ready)
    (Includes-same (texts s.propagator.clauses.items) (texts s.propagator.clauses.items) refl) c.requires.learner)

pub returns-in_err-push-clause-grew : goal.returns-in_err-push-clause-grew
returns-in_err-push-clause-grew c = Grew-same c.args.self.now _ refl refl c.in_err-push.ensures.err

pub returns-clause-last : goal.returns-clause-last
returns-clause-last c =
    let s = c.args.self.now in
    let named : AreNamedPremises s.clauses (results s.log) c.as_slice.result.now s.propagator.clauses.items =
    subst (λ (names : List Premise). AreNamedPremises s.clauses (results s.log) names s.propagator.clauses.items) (sym c.as_slice.ensures.value) c.requires.learner.ready.named in
    appended_results s.clauses s.log c.push.new.self c.in_ok-chain.chain []
    (c.in_ok-chain.ensures.refuted s.clauses (results s.log) named (c.named.ensures ∙ ap Some (sym c.as_slice-2.ensures))) c.in_ok-push.ensures.ok

pub returns-clause-learner : goal.returns-clause-learner
returns-clause-learner c =
    let s = c.args.self.now in
    let marks = c.refuted_chain.new.marks.marked in
    let after = c.push.new.self in
    let clause = c.named.result.now in
    let named : AreNamedPremises s.clauses (results s.log) c.as_slice.result.now s.propagator.clauses.items =
    subst (λ (names : List Premise). AreNamedPremises s.clauses (results s.log) names s.propagator.clauses.items) (sym c.as_slice.ensures.value) c.requires.learner.ready.named in
    let are : results after ≡ results s.log ++ [] ∷ [] =
    appended_results s.clauses s.log after c.in_ok-chain.chain []
    (c.in_ok-chain.ensures.refuted s.clauses (results s.log) named (c.named.ensures ∙ ap Some (sym c.as_slice-2.ensures))) c.in_ok-push.ensures.ok in
    let ready : IsNamedPropagator s.clauses (results s.log) s.propagator s.names.items marks =
    ready_marks s.clauses (results s.log) s.propagator s.names.items s.marks.marked marks (omega (arith, c.refuted_chain.ensures.made)) c.requires.learner.ready in
    learner_refuted s.clauses s.log after s.is_refuted s.propagator s.names.items marks s.inserted_clauses s.inserted_results c.requires.open
    (subst (λ (list : List (List SatLit)). IsNamedPropagator s.clauses list s.propagator s.names.items marks) (sym are)
    (ready_learned s.clauses (results s.log) s.propagator s.names.items marks [] ready))
    c.push.ensures.right are
    (root_reaches_false s.clauses (results s.log) s.propagator s.names.items s.marks.marked clause c.requires.learner.ready c.in_ok-chain.ensures.trail c.requires.root
    (premise_among s.clauses (results s.log) c.args.premise clause c.named.ensures) (c.requires.falsified clause c.named.ensures))
    (learner_kept s.clauses s.log s.is_refuted s.propagator s.propagator s.names.items s.names.items s.marks.marked marks s.inserted_clauses s.inserted_results ready
    (Includes-same (texts s.propagator.clauses.items) (texts s.propagator.clauses.items) refl) c.requires.learner)

pub returns-clause-grew : goal.returns-clause-grew
returns-clause-grew c =
    let s = c.args.self.now in
    let appends = c.in_ok-push.ensures.ok in
    let named : AreNamedPremises s.clauses (results s.log) c.as_slice.result.now s.propagator.clauses.items =
    subst (λ (names : List Premise). AreNamedPremises s.clauses (results s.log) names s.propagator.clauses.items) (sym c.as_slice.ensures.value) c.requires.learner.ready.named in
    let derived : chain_result s.clauses (results s.log) c.in_ok-chain.chain ≡ Some [] =
    c.in_ok-chain.ensures.refuted s.clauses (results s.log) named (c.named.ensures ∙ ap Some (sym c.as_slice-2.ensures)) in
    let empty : appends.outcome ≡ [] = same_Some _ _ (sym appends.derived ∙ derived) in
    Grew-pushed s _ (record { chain = c.in_ok-chain.chain; result = appends.outcome }) refl refl appends.appended (λ filled. absurd (filled empty))
