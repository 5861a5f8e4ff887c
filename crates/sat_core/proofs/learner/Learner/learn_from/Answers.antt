use Rattle.std.proofs.Common.{◌≡◌, ◌++◌, ◌+◌, ◌≤◌, Bool, List, Some, length, refl, sym, ap, ◌∙◌, subst, arith}
use Rattle.sat_base.specs.declared.literal.SatLit.{SatLit}
use Rattle.sat_log.specs.declared.chain.Premise.{Premise}
use Rattle.sat_log.specs.declared.log.LogEntry.{LogEntry}
use Rattle.sat_log.specs.Chains.{results}
use Rattle.sat_log.specs.Propagation.{Includes}
use Rattle.sat_propagate.specs.Internal.Propagator.{texts}
use Rattle.sat_propagate.specs.declared.propagator.Propagator.{Propagator}
use Rattle.sat_core.specs.Internal.Learned.{Learns}
use Rattle.sat_core.specs.Internal.Learner.{AreLearned, seen}
use Rattle.sat_core.proofs.NameLaws.{ready_same}
use Rattle.sat_core.proofs.LearnerLaws.{learned_open, Grew-same, Grew-trans}
use Rattle.sat_core.proofs.LearnerSteps.{learner_kept, Includes-same}
use Rattle.sat_core.proofs.SpentLaws.{spent_of, spent_same, spent_answer}
use Rattle.sat_core.proofs.WithinLaws.{within_open, within_refuted, within_learned, unsat_answer}
use Rattle.sat_core.proofs.PremiseLaws.{conflict_there, conflict_false, Some≢None}
use Rattle.std.proofs.lemmas.List.{nil_from_length}
use Rattle.std.proofs.lemmas.Result.{IfOk-from_err}
use Rattle.std.proofs.lemmas.Option.{slice_get-get_or, slice_get_within}
use Rattle.sat_core.proofs.learner.Learner.learn_from.Goals as goal

pub returns-in_err-chain-clause-grew : goal.returns-in_err-chain-clause-grew
returns-in_err-chain-clause-grew c =
    let same = c.analysed.ensures.same in
    Grew-same c.args.self.now c.analysed.new.self same.clauses_same same.made_same same.log_same

pub returns-then-conflicts-budget-clause-learner : goal.returns-then-conflicts-budget-clause-learner
returns-then-conflicts-budget-clause-learner c =
    let a = c.analysed.new.self in
    let back = c.back_to.new.self in
    let l = c.analysed.ensures.learner in
    let same : texts back.clauses.items ≡ texts a.propagator.clauses.items = ap texts c.back_to.ensures.clauses in
    learner_kept a.clauses a.log a.is_refuted a.propagator back a.names.items a.names.items a.marks.marked a.marks.marked a.inserted_clauses a.inserted_results
    (ready_same a.clauses (results a.log) a.propagator back a.names.items a.marks.marked c.back_to.ensures.right (ap (λ (list : List Bool). length list) c.back_to.ensures.phases) same l.ready)
    (Includes-same (texts a.propagator.clauses.items) (texts back.clauses.items) same) l

pub returns-then-conflicts-budget-clause-grew : goal.returns-then-conflicts-budget-clause-grew
returns-then-conflicts-budget-clause-grew c =
    let same = c.analysed.ensures.same in
    Grew-same c.args.self.now _ same.clauses_same (ap (λ (list : List Bool). length list) c.back_to.ensures.phases ∙ same.made_same) same.log_same

pub returns-then-conflicts-budget-clause-answer : goal.returns-then-conflicts-budget-clause-answer
returns-then-conflicts-budget-clause-answer c =
    let s = c.args.self.now in
    let a = c.analysed.new.self in
    let same = c.analysed.ensures.same in
    let known : AreLearned s.clauses (results s.log) =
    subst (AreLearned s.clauses) (learned_open s.is_refuted (results s.log) c.requires.open) c.requires.learner.of_learned in
    let counted : length (results s.log) ≡ c.args.budget =
    ap (λ (log : List LogEntry). length (results log)) (sym same.log_same)
    ∙ ap (λ (list : List (List SatLit)). length list) (sym (learned_open a.is_refuted (results a.log) (same.refuted_same ∙ c.requires.open)))
    ∙ sym c.conflicts-conflicts.ensures ∙ c.if-conflicts-budget.true in
    λ answer e. spent_answer c.args.budget (record { values = c.back_to.new.self.trail.phases; clauses = a.clauses; log = a.log; is_refuted = a.is_refuted }) c.conflicts-conflicts.result answer e (same.refuted_same ∙ c.requires.open)
    (spent_same s.clauses a.clauses s.log a.log c.args.budget c.conflicts-conflicts.result same.clauses_same same.log_same
    (spent_of s.clauses (results s.log) s.propagator s.names.items s.marks.marked c.args.conflict c.in_ok-chain.chain c.args.budget c.conflicts-conflicts.result c.requires.learner.ready c.levels.ensures.right
    c.requires.included c.requires.conflict (omega (arith, c.levels.ensures.number, c.if-levels-eq0.false)) known c.in_ok-chain.ensures.learned c.if-conflicts-budget.true counted))

pub learn-requires-clause-included : goal.learn-requires-clause-included
learn-requires-clause-included c =
    let s = c.args.self.now in
    let a = c.analysed.new.self in
    let same = c.analysed.ensures.same in
    subst (λ (clauses : List (List SatLit)). Includes (clauses ++ results a.log) (texts a.propagator.clauses.items)) (sym same.clauses_same)
    (subst (λ (log : List LogEntry). Includes (s.clauses ++ results log) (texts a.propagator.clauses.items)) (sym same.log_same)
    (subst (λ (propagator : Propagator). Includes (s.clauses ++ results s.log) (texts propagator.clauses.items)) (sym c.analysed.ensures.propagator) c.requires.included))

pub returns-in_err-learn-clause-grew : goal.returns-in_err-learn-clause-grew
returns-in_err-learn-clause-grew c =
    let same = c.analysed.ensures.same in
    Grew-trans c.args.self.now c.analysed.new.self c.learn.new.self
    (Grew-same c.args.self.now c.analysed.new.self same.clauses_same same.made_same same.log_same) c.learn.ensures.grew

pub returns-clause-grew : goal.returns-clause-grew
returns-clause-grew c =
    let same = c.analysed.ensures.same in
    Grew-trans c.args.self.now c.analysed.new.self c.learn.new.self
    (Grew-same c.args.self.now c.analysed.new.self same.clauses_same same.made_same same.log_same) c.learn.ensures.grew

pub refute-requires-clause-learner : goal.refute-requires-clause-learner
refute-requires-clause-learner c = c.requires.learner

pub refute-requires-clause-over : goal.refute-requires-clause-over
refute-requires-clause-over c = c.requires.over

pub refute-requires-clause-open : goal.refute-requires-clause-open
refute-requires-clause-open c = c.requires.open

pub returns-in_err-refute-clause-learner : goal.returns-in_err-refute-clause-learner
returns-in_err-refute-clause-learner c = c.refute.ensures.learner

pub returns-in_err-refute-clause-grew : goal.returns-in_err-refute-clause-grew
returns-in_err-refute-clause-grew c = c.refute.ensures.grew

pub returns-in_err-refute-clause-within : goal.returns-in_err-refute-clause-within
returns-in_err-refute-clause-within c =
    let r = c.refute.new.self in
    within_open r.is_refuted r.log c.args.self.now.log c.args.budget c.in_err-refute.ensures.open c.in_err-refute.ensures.err c.requires.budget

pub returns-then-levels-eq0-clause-learner : goal.returns-then-levels-eq0-clause-learner
returns-then-levels-eq0-clause-learner c = c.refute.ensures.learner

pub returns-then-levels-eq0-clause-grew : goal.returns-then-levels-eq0-clause-grew
returns-then-levels-eq0-clause-grew c = c.refute.ensures.grew

pub returns-then-levels-eq0-clause-within : goal.returns-then-levels-eq0-clause-within
returns-then-levels-eq0-clause-within c =
    let r = c.refute.new.self in
    within_refuted r.is_refuted r.log c.args.self.now.log c.args.budget c.in_ok-refute.ensures.refuted c.in_ok-refute.ensures.last c.requires.budget

pub returns-then-levels-eq0-clause-answer : goal.returns-then-levels-eq0-clause-answer
returns-then-levels-eq0-clause-answer c = λ answer e. unsat_answer c.args.budget (seen c.refute.new.self) answer e c.in_ok-refute.ensures.refuted

pub analysed-requires-clause-learner : goal.analysed-requires-clause-learner
analysed-requires-clause-learner c = c.requires.learner

pub analysed-requires-clause-conflict : goal.analysed-requires-clause-conflict
analysed-requires-clause-conflict c = c.requires.conflict

pub analysed-requires-clause-decided : goal.analysed-requires-clause-decided
analysed-requires-clause-decided c = omega (arith, c.levels.ensures.number, c.if-levels-eq0.false)

pub returns-in_err-chain-clause-learner : goal.returns-in_err-chain-clause-learner
returns-in_err-chain-clause-learner c = c.analysed.ensures.learner

pub returns-in_err-chain-clause-within : goal.returns-in_err-chain-clause-within
returns-in_err-chain-clause-within c =
    let a = c.analysed.new.self in
    let same = c.analysed.ensures.same in
    within_open a.is_refuted a.log c.args.self.now.log c.args.budget (same.refuted_same ∙ c.requires.open) same.log_same c.requires.budget

pub conflicts-conflicts-requires : goal.conflicts-conflicts-requires
conflicts-conflicts-requires c = c.analysed.ensures.learner

pub returns-then-conflicts-budget-clause-within : goal.returns-then-conflicts-budget-clause-within
returns-then-conflicts-budget-clause-within c =
    let a = c.analysed.new.self in
    let same = c.analysed.ensures.same in
    within_open a.is_refuted a.log c.args.self.now.log c.args.budget (same.refuted_same ∙ c.requires.open) same.log_same c.requires.budget

pub returns-then-conflicts-budget-clause-log : goal.returns-then-conflicts-budget-clause-log
returns-then-conflicts-budget-clause-log c = λ _ _. c.analysed.ensures.same.log_same

pub learn-requires-clause-learner : goal.learn-requires-clause-learner
learn-requires-clause-learner c = c.analysed.ensures.learner

pub learn-requires-clause-open : goal.learn-requires-clause-open
learn-requires-clause-open c = c.analysed.ensures.same.refuted_same ∙ c.requires.open

pub learn-requires-clause-learns : goal.learn-requires-clause-learns
learn-requires-clause-learns c =
    let s = c.args.self.now in
    subst (λ (propagator : Propagator). Learns propagator.clauses.items propagator.trail c.analysed.new.self.names.items c.in_ok-chain.chain) (sym c.analysed.ensures.propagator)
    (subst (λ (names : List Premise). Learns s.propagator.clauses.items s.propagator.trail names c.in_ok-chain.chain) (sym c.analysed.ensures.names) c.in_ok-chain.ensures.learned)

pub returns-in_err-learn-clause-learner : goal.returns-in_err-learn-clause-learner
returns-in_err-learn-clause-learner c = c.learn.ensures.learner

pub returns-in_err-learn-clause-within : goal.returns-in_err-learn-clause-within
returns-in_err-learn-clause-within c =
    let l = c.learn.new.self in
    let same = c.analysed.ensures.same in
    within_open l.is_refuted l.log c.args.self.now.log c.args.budget (c.learn.ensures.refuted ∙ same.refuted_same ∙ c.requires.open) (c.in_err-learn.ensures.err ∙ same.log_same) c.requires.budget

pub returns-clause-learner : goal.returns-clause-learner
returns-clause-learner c = c.learn.ensures.learner

pub returns-clause-within : goal.returns-clause-within
returns-clause-within c =
    let a = c.analysed.new.self in
    let l = c.learn.new.self in
    let same = c.analysed.ensures.same in
    let short = subst (λ (log : List LogEntry). length log ≤ c.args.budget) (sym same.log_same) c.requires.budget in
    within_learned a.is_refuted l.is_refuted a.log l.log c.args.budget c.conflicts-conflicts.result (same.refuted_same ∙ c.requires.open) c.learn.ensures.refuted short
    c.conflicts-conflicts.ensures c.if-conflicts-budget.false c.in_ok-learn.ensures.longer

pub returns-clause-open : goal.returns-clause-open
returns-clause-open c = λ _. c.learn.ensures.refuted ∙ c.analysed.ensures.same.refuted_same ∙ c.requires.open

pub returns-clause-longer : goal.returns-clause-longer
returns-clause-longer c = λ _. c.in_ok-learn.ensures.longer ∙ ap (λ (log : List LogEntry). length log + 1) c.analysed.ensures.same.log_same

pub refute-requires-clause-there : goal.refute-requires-clause-there
refute-requires-clause-there c = let s = c.args.self.now in conflict_there s.clauses (results s.log) s.names.items s.propagator.clauses.items s.propagator.trail c.args.conflict c.index-premise.result.now c.requires.learner.ready.named c.requires.conflict (let inside = slice_get_within s.propagator.clauses.items c.args.conflict c.requires.conflict.watched c.requires.conflict.there in slice_get-get_or s.names.items c.args.conflict c.index-premise.result.now (omega (arith, inside, c.requires.learner.ready.names_made)) ∙ ap Some (sym c.index-premise.ensures))

pub refute-requires-clause-falsified : goal.refute-requires-clause-falsified
refute-requires-clause-falsified c = let s = c.args.self.now in λ clause. conflict_false s.clauses (results s.log) s.names.items s.propagator.clauses.items s.propagator.trail c.args.conflict c.index-premise.result.now clause c.requires.learner.ready.named c.requires.conflict (let inside = slice_get_within s.propagator.clauses.items c.args.conflict c.requires.conflict.watched c.requires.conflict.there in slice_get-get_or s.names.items c.args.conflict c.index-premise.result.now (omega (arith, inside, c.requires.learner.ready.names_made)) ∙ ap Some (sym c.index-premise.ensures))

pub refute-requires-clause-root : goal.refute-requires-clause-root
refute-requires-clause-root c = nil_from_length c.args.self.now.propagator.trail.starts (omega (arith, c.levels.ensures.number, c.if-levels-eq0.true))

pub returns-in_err-refute-clause-open : goal.returns-in_err-refute-clause-open
returns-in_err-refute-clause-open c = IfOk-from_err c.from_residual.result _ c.from_residual.ensures.0

pub returns-in_err-refute-clause-longer : goal.returns-in_err-refute-clause-longer
returns-in_err-refute-clause-longer c = IfOk-from_err c.from_residual.result _ c.from_residual.ensures.0

pub returns-in_err-refute-clause-answer : goal.returns-in_err-refute-clause-answer
returns-in_err-refute-clause-answer c = IfOk-from_err c.from_residual.result _ c.from_residual.ensures.0

pub returns-in_err-refute-clause-log : goal.returns-in_err-refute-clause-log
returns-in_err-refute-clause-log c = IfOk-from_err c.from_residual.result _ c.from_residual.ensures.0

pub returns-in_err-refute-clause-inserted_clauses : goal.returns-in_err-refute-clause-inserted_clauses
returns-in_err-refute-clause-inserted_clauses c = c.refute.ensures.inserted_clauses

pub returns-in_err-refute-clause-inserted_results : goal.returns-in_err-refute-clause-inserted_results
returns-in_err-refute-clause-inserted_results c = c.refute.ensures.inserted_results

pub returns-in_err-chain-clause-open : goal.returns-in_err-chain-clause-open
returns-in_err-chain-clause-open c = IfOk-from_err c.from_residual-in_err-chain.result _ c.from_residual-in_err-chain.ensures.0

pub returns-in_err-chain-clause-longer : goal.returns-in_err-chain-clause-longer
returns-in_err-chain-clause-longer c = IfOk-from_err c.from_residual-in_err-chain.result _ c.from_residual-in_err-chain.ensures.0

pub returns-in_err-chain-clause-answer : goal.returns-in_err-chain-clause-answer
returns-in_err-chain-clause-answer c = IfOk-from_err c.from_residual-in_err-chain.result _ c.from_residual-in_err-chain.ensures.0

pub returns-in_err-chain-clause-log : goal.returns-in_err-chain-clause-log
returns-in_err-chain-clause-log c = IfOk-from_err c.from_residual-in_err-chain.result _ c.from_residual-in_err-chain.ensures.0

pub returns-in_err-chain-clause-inserted_clauses : goal.returns-in_err-chain-clause-inserted_clauses
returns-in_err-chain-clause-inserted_clauses c = c.analysed.ensures.inserted_clauses

pub returns-in_err-chain-clause-inserted_results : goal.returns-in_err-chain-clause-inserted_results
returns-in_err-chain-clause-inserted_results c = c.analysed.ensures.inserted_results

pub returns-in_err-learn-clause-open : goal.returns-in_err-learn-clause-open
returns-in_err-learn-clause-open c = IfOk-from_err c.from_residual-in_err-learn.result _ c.from_residual-in_err-learn.ensures.0

pub returns-in_err-learn-clause-longer : goal.returns-in_err-learn-clause-longer
returns-in_err-learn-clause-longer c = IfOk-from_err c.from_residual-in_err-learn.result _ c.from_residual-in_err-learn.ensures.0

pub returns-in_err-learn-clause-answer : goal.returns-in_err-learn-clause-answer
returns-in_err-learn-clause-answer c = IfOk-from_err c.from_residual-in_err-learn.result _ c.from_residual-in_err-learn.ensures.0

pub returns-in_err-learn-clause-log : goal.returns-in_err-learn-clause-log
returns-in_err-learn-clause-log c = IfOk-from_err c.from_residual-in_err-learn.result _ c.from_residual-in_err-learn.ensures.0

pub returns-in_err-learn-clause-inserted_clauses : goal.returns-in_err-learn-clause-inserted_clauses
returns-in_err-learn-clause-inserted_clauses c = c.learn.ensures.inserted_clauses ∙ c.analysed.ensures.inserted_clauses

pub returns-in_err-learn-clause-inserted_results : goal.returns-in_err-learn-clause-inserted_results
returns-in_err-learn-clause-inserted_results c = c.learn.ensures.inserted_results ∙ c.analysed.ensures.inserted_results

pub returns-then-levels-eq0-clause-inserted_clauses : goal.returns-then-levels-eq0-clause-inserted_clauses
returns-then-levels-eq0-clause-inserted_clauses c = c.refute.ensures.inserted_clauses

pub returns-then-levels-eq0-clause-inserted_results : goal.returns-then-levels-eq0-clause-inserted_results
returns-then-levels-eq0-clause-inserted_results c = c.refute.ensures.inserted_results

pub returns-then-conflicts-budget-clause-inserted_clauses : goal.returns-then-conflicts-budget-clause-inserted_clauses
returns-then-conflicts-budget-clause-inserted_clauses c = c.analysed.ensures.inserted_clauses

pub returns-then-conflicts-budget-clause-inserted_results : goal.returns-then-conflicts-budget-clause-inserted_results
returns-then-conflicts-budget-clause-inserted_results c = c.analysed.ensures.inserted_results

pub returns-clause-inserted_clauses : goal.returns-clause-inserted_clauses
returns-clause-inserted_clauses c = c.learn.ensures.inserted_clauses ∙ c.analysed.ensures.inserted_clauses

pub returns-clause-inserted_results : goal.returns-clause-inserted_results
returns-clause-inserted_results c = c.learn.ensures.inserted_results ∙ c.analysed.ensures.inserted_results

pub returns-then-levels-eq0-clause-open : goal.returns-then-levels-eq0-clause-open
returns-then-levels-eq0-clause-open c = λ e. absurd (Some≢None _ e)

pub returns-then-levels-eq0-clause-longer : goal.returns-then-levels-eq0-clause-longer
returns-then-levels-eq0-clause-longer c = λ e. absurd (Some≢None _ e)

pub returns-then-conflicts-budget-clause-open : goal.returns-then-conflicts-budget-clause-open
returns-then-conflicts-budget-clause-open c = λ e. absurd (Some≢None _ e)

pub returns-then-conflicts-budget-clause-longer : goal.returns-then-conflicts-budget-clause-longer
returns-then-conflicts-budget-clause-longer c = λ e. absurd (Some≢None _ e)

pub returns-then-levels-eq0-clause-log : goal.returns-then-levels-eq0-clause-log
returns-then-levels-eq0-clause-log c = λ _ other. absurd (other refl)

pub returns-clause-answer : goal.returns-clause-answer
returns-clause-answer c = λ answer e. absurd (Some≢None answer (sym e))

pub back_to-requires : goal.back_to-requires
back_to-requires c = record { right = c.analysed.ensures.learner.ready.right }
