use Rattle.std.proofs.Common.{◌≡◌, ◌<◌, [], List, Some, length, get_or, refl, sym, ap, ◌∙◌, subst, arith}
use Rattle.std.specs.Prelude.{IsSome}
use Rattle.std.specs.List.{slice_get}
use Rattle.std.proofs.lemmas.List.{length-map}
use Rattle.std.proofs.lemmas.Option.{same_Some, slice_get-get_or}
use Rattle.sat_base.specs.declared.literal.SatLit.{SatLit}
use Rattle.sat_log.specs.declared.chain.Premise.{Premise}
use Rattle.sat_log.specs.declared.log.LogEntry.{LogEntry}
use Rattle.sat_log.specs.Chains.{premise_clause, results}
use Rattle.sat_propagate.specs.Internal.Propagator.{texts}
use Rattle.sat_core.proofs.NameLaws.{result_there}
use Rattle.sat_core.proofs.LearnerLaws.{all_inserted}
use Rattle.sat_core.proofs.LearnerSteps.{learner_next_clause, learner_next_result, IsUnlearned-trans, pushed_there}
use Rattle.sat_core.proofs.WithinLaws.{over_kept}
use Rattle.sat_core.proofs.PremiseLaws.{Some≢None}
use Rattle.std.proofs.lemmas.Result.{IfOk-from_err}
use Rattle.sat_core.proofs.learner.Learner.insert_all.Goals as goal

pub loop-self-preserved : goal.loop-self-preserved
loop-self-preserved c =
    let s = c.loop-self.self in
    let a = c.insert.new.self in
    let same = c.insert.ensures.same in
    let clause = get_or s.clauses s.inserted_clauses [] in
    let at : slice_get s.clauses s.inserted_clauses ≡ Some clause = slice_get-get_or s.clauses s.inserted_clauses [] (omega (arith, c.loop-self-test.true, c.len.ensures)) in
    let at_now : slice_get a.clauses a.inserted_clauses ≡ Some clause =
    ap (slice_get a.clauses) c.insert.ensures.inserted_clauses ∙ ap (λ (list : List (List SatLit)). slice_get list s.inserted_clauses) same.clauses_same ∙ at in
    record {
      learner = learner_next_clause a.clauses a.log a.is_refuted a.propagator a.names.items a.marks.marked a.inserted_clauses a.inserted_results clause at_now
          (pushed_there (texts s.propagator.clauses.items) (texts a.propagator.clauses.items) clause (c.in_ok-insert.ensures.inserted clause c.if-not-branch.false at)) c.insert.ensures.learner;
      same = IsUnlearned-trans c.args.self.now s _ c.loop-self.invariant.same (record { clauses_same = same.clauses_same; made_same = same.made_same; log_same = same.log_same; refuted_same = same.refuted_same });
      more_clauses = omega (arith, c.loop-self.invariant.more_clauses, c.insert.ensures.inserted_clauses);
      more_results = omega (arith, c.loop-self.invariant.more_results, c.insert.ensures.inserted_results);
    }

pub insert-requires-in-loop-self-2-clause-there : goal.insert-requires-in-loop-self-2-clause-there
insert-requires-in-loop-self-2-clause-there c =
    result_there c.loop-self-2.self.log c.loop-self-2.self.inserted_results (omega (arith, c.loop-self-2-test.true, c.len-in-loop-self-2.ensures))

pub returns-then-not-branch-2-clause-there : goal.returns-then-not-branch-2-clause-there
returns-then-not-branch-2-clause-there c =
    let after = c.insert-in-loop-self-2.new.self in
    λ premise e.
    subst (λ (p : Premise). IsSome (premise_clause after.clauses (results after.log) p)) (same_Some _ _ e)
    (subst (λ (log : List LogEntry). IsSome (slice_get (results log) c.loop-self-2.self.inserted_results)) (sym c.insert-in-loop-self-2.ensures.same.log_same)
    (result_there c.loop-self-2.self.log c.loop-self-2.self.inserted_results (omega (arith, c.loop-self-2-test.true, c.len-in-loop-self-2.ensures))))

pub loop-self-2-preserved : goal.loop-self-2-preserved
loop-self-2-preserved c =
    let s = c.loop-self-2.self in
    let a = c.insert-in-loop-self-2.new.self in
    let same = c.insert-in-loop-self-2.ensures.same in
    let clause = get_or (results s.log) s.inserted_results [] in
    let inside : s.inserted_results < length (results s.log) = omega (arith, c.loop-self-2-test.true, c.len-in-loop-self-2.ensures, length-map s.log (λ (entry : LogEntry). entry.result)) in
    let at : slice_get (results s.log) s.inserted_results ≡ Some clause = slice_get-get_or (results s.log) s.inserted_results [] inside in
    let at_now : slice_get (results a.log) a.inserted_results ≡ Some clause =
    ap (slice_get (results a.log)) c.insert-in-loop-self-2.ensures.inserted_results ∙ ap (λ (log : List LogEntry). slice_get (results log) s.inserted_results) same.log_same ∙ at in
    record {
      learner = learner_next_result a.clauses a.log a.is_refuted a.propagator a.names.items a.marks.marked a.inserted_clauses a.inserted_results clause at_now
          (pushed_there (texts s.propagator.clauses.items) (texts a.propagator.clauses.items) clause (c.in_ok-insert-2.ensures.inserted clause c.if-not-branch-2.false at)) c.insert-in-loop-self-2.ensures.learner;
      same = IsUnlearned-trans c.args.self.now s _ c.loop-self-2.invariant.same (record { clauses_same = same.clauses_same; made_same = same.made_same; log_same = same.log_same; refuted_same = same.refuted_same });
      more_clauses = omega (arith, c.loop-self-2.invariant.more_clauses, c.insert-in-loop-self-2.ensures.inserted_clauses);
      more_results = omega (arith, c.loop-self-2.invariant.more_results, c.insert-in-loop-self-2.ensures.inserted_results);
      whole = omega (arith, c.loop-self-2.invariant.whole, c.insert-in-loop-self-2.ensures.inserted_clauses, ap (λ (list : List (List SatLit)). length list) same.clauses_same);
    }

pub returns-clause-included : goal.returns-clause-included
returns-clause-included c =
    let s = c.loop-self-2.self in
    let l = c.loop-self-2.invariant.learner in
    λ e. all_inserted s.inserted_clauses s.inserted_results s.clauses (results s.log) (texts s.propagator.clauses.items) c.loop-self-2.invariant.whole
    (omega (arith, c.loop-self-2-test.false, c.len-in-loop-self-2.ensures, length-map s.log (λ (entry : LogEntry). entry.result))) l.clauses_in l.results_in

pub insert-requires-clause-learner : goal.insert-requires-clause-learner
insert-requires-clause-learner c = c.loop-self.invariant.learner

pub insert-requires-clause-over : goal.insert-requires-clause-over
insert-requires-clause-over c = over_kept c.args.self.now c.loop-self.self c.loop-self.invariant.same c.requires.over

pub insert-requires-clause-open : goal.insert-requires-clause-open
insert-requires-clause-open c = c.loop-self.invariant.same.refuted_same ∙ c.requires.open

pub returns-in_err-insert-clause-learner : goal.returns-in_err-insert-clause-learner
returns-in_err-insert-clause-learner c = c.insert.ensures.learner

pub returns-in_err-insert-clause-same : goal.returns-in_err-insert-clause-same
returns-in_err-insert-clause-same c = IsUnlearned-trans c.args.self.now c.loop-self.self c.insert.new.self c.loop-self.invariant.same c.insert.ensures.same

pub returns-in_err-insert-clause-more_clauses : goal.returns-in_err-insert-clause-more_clauses
returns-in_err-insert-clause-more_clauses c = omega (arith, c.loop-self.invariant.more_clauses, c.insert.ensures.inserted_clauses)

pub returns-in_err-insert-clause-more_results : goal.returns-in_err-insert-clause-more_results
returns-in_err-insert-clause-more_results c = omega (arith, c.loop-self.invariant.more_results, c.insert.ensures.inserted_results)

pub returns-then-not-branch-clause-learner : goal.returns-then-not-branch-clause-learner
returns-then-not-branch-clause-learner c = c.insert.ensures.learner

pub returns-then-not-branch-clause-same : goal.returns-then-not-branch-clause-same
returns-then-not-branch-clause-same c = IsUnlearned-trans c.args.self.now c.loop-self.self c.insert.new.self c.loop-self.invariant.same c.insert.ensures.same

pub returns-then-not-branch-clause-more_clauses : goal.returns-then-not-branch-clause-more_clauses
returns-then-not-branch-clause-more_clauses c = omega (arith, c.loop-self.invariant.more_clauses, c.insert.ensures.inserted_clauses)

pub returns-then-not-branch-clause-more_results : goal.returns-then-not-branch-clause-more_results
returns-then-not-branch-clause-more_results c = omega (arith, c.loop-self.invariant.more_results, c.insert.ensures.inserted_results)

pub returns-in_err-insert-clause-included : goal.returns-in_err-insert-clause-included
returns-in_err-insert-clause-included c = IfOk-from_err c.from_residual.result _ c.from_residual.ensures.0

pub returns-in_err-insert-clause-there : goal.returns-in_err-insert-clause-there
returns-in_err-insert-clause-there c = IfOk-from_err c.from_residual.result _ c.from_residual.ensures.0

pub returns-in_err-insert-clause-falsified : goal.returns-in_err-insert-clause-falsified
returns-in_err-insert-clause-falsified c = IfOk-from_err c.from_residual.result _ c.from_residual.ensures.0

pub returns-in_err-insert-clause-root : goal.returns-in_err-insert-clause-root
returns-in_err-insert-clause-root c = IfOk-from_err c.from_residual.result _ c.from_residual.ensures.0

pub returns-in_err-insert-clause-all_clauses : goal.returns-in_err-insert-clause-all_clauses
returns-in_err-insert-clause-all_clauses c = IfOk-from_err c.from_residual.result _ c.from_residual.ensures.0

pub returns-in_err-insert-clause-all_results : goal.returns-in_err-insert-clause-all_results
returns-in_err-insert-clause-all_results c = IfOk-from_err c.from_residual.result _ c.from_residual.ensures.0

pub returns-then-not-branch-clause-included : goal.returns-then-not-branch-clause-included
returns-then-not-branch-clause-included c = λ e. absurd (Some≢None _ e)

pub returns-then-not-branch-clause-all_clauses : goal.returns-then-not-branch-clause-all_clauses
returns-then-not-branch-clause-all_clauses c = λ e. absurd (Some≢None _ e)

pub returns-then-not-branch-clause-all_results : goal.returns-then-not-branch-clause-all_results
returns-then-not-branch-clause-all_results c = λ e. absurd (Some≢None _ e)

pub returns-then-not-branch-clause-root : goal.returns-then-not-branch-clause-root
returns-then-not-branch-clause-root c = λ _ _. c.in_ok-insert.ensures.root c.if-not-branch.true

pub insert-requires-in-loop-self-2-clause-learner : goal.insert-requires-in-loop-self-2-clause-learner
insert-requires-in-loop-self-2-clause-learner c = c.loop-self-2.invariant.learner

pub insert-requires-in-loop-self-2-clause-over : goal.insert-requires-in-loop-self-2-clause-over
insert-requires-in-loop-self-2-clause-over c = over_kept c.args.self.now c.loop-self-2.self c.loop-self-2.invariant.same c.requires.over

pub insert-requires-in-loop-self-2-clause-open : goal.insert-requires-in-loop-self-2-clause-open
insert-requires-in-loop-self-2-clause-open c = c.loop-self-2.invariant.same.refuted_same ∙ c.requires.open

pub returns-in_err-insert-2-clause-learner : goal.returns-in_err-insert-2-clause-learner
returns-in_err-insert-2-clause-learner c = c.insert-in-loop-self-2.ensures.learner

pub returns-in_err-insert-2-clause-same : goal.returns-in_err-insert-2-clause-same
returns-in_err-insert-2-clause-same c = IsUnlearned-trans c.args.self.now c.loop-self-2.self c.insert-in-loop-self-2.new.self c.loop-self-2.invariant.same c.insert-in-loop-self-2.ensures.same

pub returns-in_err-insert-2-clause-more_clauses : goal.returns-in_err-insert-2-clause-more_clauses
returns-in_err-insert-2-clause-more_clauses c = omega (arith, c.loop-self-2.invariant.more_clauses, c.insert-in-loop-self-2.ensures.inserted_clauses)

pub returns-in_err-insert-2-clause-more_results : goal.returns-in_err-insert-2-clause-more_results
returns-in_err-insert-2-clause-more_results c = omega (arith, c.loop-self-2.invariant.more_results, c.insert-in-loop-self-2.ensures.inserted_results)

pub returns-then-not-branch-2-clause-learner : goal.returns-then-not-branch-2-clause-learner
returns-then-not-branch-2-clause-learner c = c.insert-in-loop-self-2.ensures.learner

pub returns-then-not-branch-2-clause-same : goal.returns-then-not-branch-2-clause-same
returns-then-not-branch-2-clause-same c = IsUnlearned-trans c.args.self.now c.loop-self-2.self c.insert-in-loop-self-2.new.self c.loop-self-2.invariant.same c.insert-in-loop-self-2.ensures.same

pub returns-then-not-branch-2-clause-more_clauses : goal.returns-then-not-branch-2-clause-more_clauses
returns-then-not-branch-2-clause-more_clauses c = omega (arith, c.loop-self-2.invariant.more_clauses, c.insert-in-loop-self-2.ensures.inserted_clauses)

pub returns-then-not-branch-2-clause-more_results : goal.returns-then-not-branch-2-clause-more_results
returns-then-not-branch-2-clause-more_results c = omega (arith, c.loop-self-2.invariant.more_results, c.insert-in-loop-self-2.ensures.inserted_results)

pub returns-in_err-insert-2-clause-included : goal.returns-in_err-insert-2-clause-included
returns-in_err-insert-2-clause-included c = IfOk-from_err c.from_residual-in_err-insert-2.result _ c.from_residual-in_err-insert-2.ensures.0

pub returns-in_err-insert-2-clause-there : goal.returns-in_err-insert-2-clause-there
returns-in_err-insert-2-clause-there c = IfOk-from_err c.from_residual-in_err-insert-2.result _ c.from_residual-in_err-insert-2.ensures.0

pub returns-in_err-insert-2-clause-falsified : goal.returns-in_err-insert-2-clause-falsified
returns-in_err-insert-2-clause-falsified c = IfOk-from_err c.from_residual-in_err-insert-2.result _ c.from_residual-in_err-insert-2.ensures.0

pub returns-in_err-insert-2-clause-root : goal.returns-in_err-insert-2-clause-root
returns-in_err-insert-2-clause-root c = IfOk-from_err c.from_residual-in_err-insert-2.result _ c.from_residual-in_err-insert-2.ensures.0

pub returns-in_err-insert-2-clause-all_clauses : goal.returns-in_err-insert-2-clause-all_clauses
returns-in_err-insert-2-clause-all_clauses c = IfOk-from_err c.from_residual-in_err-insert-2.result _ c.from_residual-in_err-insert-2.ensures.0

pub returns-in_err-insert-2-clause-all_results : goal.returns-in_err-insert-2-clause-all_results
returns-in_err-insert-2-clause-all_results c = IfOk-from_err c.from_residual-in_err-insert-2.result _ c.from_residual-in_err-insert-2.ensures.0

pub returns-then-not-branch-2-clause-included : goal.returns-then-not-branch-2-clause-included
returns-then-not-branch-2-clause-included c = λ e. absurd (Some≢None _ e)

pub returns-then-not-branch-2-clause-all_clauses : goal.returns-then-not-branch-2-clause-all_clauses
returns-then-not-branch-2-clause-all_clauses c = λ e. absurd (Some≢None _ e)

pub returns-then-not-branch-2-clause-all_results : goal.returns-then-not-branch-2-clause-all_results
returns-then-not-branch-2-clause-all_results c = λ e. absurd (Some≢None _ e)

pub returns-then-not-branch-2-clause-root : goal.returns-then-not-branch-2-clause-root
returns-then-not-branch-2-clause-root c = λ _ _. c.in_ok-insert-2.ensures.root c.if-not-branch-2.true

pub loop-self-init : goal.loop-self-init
loop-self-init c = record { learner = c.requires.learner; same = record { clauses_same = refl; made_same = refl; log_same = refl; refuted_same = refl }; more_clauses = omega arith; more_results = omega arith }

pub loop-self-2-init : goal.loop-self-2-init
loop-self-2-init c =
    let i = c.loop-self.invariant in
    record { learner = i.learner; same = i.same; more_clauses = i.more_clauses; more_results = i.more_results; whole = omega (arith, c.loop-self-test.false, c.len.ensures) }

pub returns-clause-there : goal.returns-clause-there
returns-clause-there c = λ premise e. absurd (Some≢None premise (sym e))

pub returns-clause-falsified : goal.returns-clause-falsified
returns-clause-falsified c = λ premise clause e _. absurd (Some≢None premise (sym e))

pub returns-clause-root : goal.returns-clause-root
returns-clause-root c = λ premise e. absurd (Some≢None premise (sym e))

pub returns-clause-all_clauses : goal.returns-clause-all_clauses
returns-clause-all_clauses c = λ _. omega (arith, c.loop-self-2.invariant.whole, c.loop-self-2.invariant.learner.clauses_made)

pub returns-clause-all_results : goal.returns-clause-all_results
returns-clause-all_results c = λ _. omega (arith, c.loop-self-2-test.false, c.len-in-loop-self-2.ensures, c.loop-self-2.invariant.learner.results_made)

pub returns-clause-learner : goal.returns-clause-learner
returns-clause-learner c = c.loop-self-2.invariant.learner

pub returns-clause-same : goal.returns-clause-same
returns-clause-same c = c.loop-self-2.invariant.same

pub returns-clause-more_clauses : goal.returns-clause-more_clauses
returns-clause-more_clauses c = c.loop-self-2.invariant.more_clauses

pub returns-clause-more_results : goal.returns-clause-more_results
returns-clause-more_results c = c.loop-self-2.invariant.more_results

pub returns-then-not-branch-clause-falsified : goal.returns-then-not-branch-clause-falsified
returns-then-not-branch-clause-falsified c =
    let s = c.loop-self.self in
    let a = c.insert.new.self in
    let same = c.insert.ensures.same in
    λ premise clause e is. c.in_ok-insert.ensures.falsified clause c.if-not-branch.true
    (subst (λ (p : Premise). premise_clause s.clauses (results s.log) p ≡ Some clause) (sym (same_Some _ _ e))
    (subst (λ (list : List (List SatLit)). premise_clause list (results s.log) premise ≡ Some clause) same.clauses_same
    (subst (λ (log : List LogEntry). premise_clause a.clauses (results log) premise ≡ Some clause) same.log_same is)))

pub returns-then-not-branch-2-clause-falsified : goal.returns-then-not-branch-2-clause-falsified
returns-then-not-branch-2-clause-falsified c =
    let s = c.loop-self-2.self in
    let a = c.insert-in-loop-self-2.new.self in
    let same = c.insert-in-loop-self-2.ensures.same in
    λ premise clause e is. c.in_ok-insert-2.ensures.falsified clause c.if-not-branch-2.true
    (subst (λ (p : Premise). premise_clause s.clauses (results s.log) p ≡ Some clause) (sym (same_Some _ _ e))
    (subst (λ (list : List (List SatLit)). premise_clause list (results s.log) premise ≡ Some clause) same.clauses_same
    (subst (λ (log : List LogEntry). premise_clause a.clauses (results log) premise ≡ Some clause) same.log_same is)))
