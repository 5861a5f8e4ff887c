use Rattle.std.proofs.Common.{◌≤◌, ◌++◌, ◌∷◌, [], ℕ, List, length, sym, ap, subst, ◌∙◌}
use Rattle.std.proofs.lemmas.List.Elements.{Contains-append_left}
use Rattle.sat_log.specs.declared.log.LogEntry.{LogEntry}
use Rattle.sat_log.specs.Chains.{results}
use Rattle.sat_propagate.specs.Internal.Propagator.{texts}
use Rattle.sat_core.specs.Internal.Learner.{AreOver, seen}
use Rattle.sat_core.proofs.LearnerLaws.{Grew-same, Grew-trans}
use Rattle.sat_core.proofs.LearnerSteps.{learner_same, Includes-same, true_within}
use Rattle.sat_core.proofs.SpentLaws.{sat_answer}
use Rattle.sat_core.proofs.WithinLaws.{within_open, within_refuted, unsat_answer, over_kept}
use Rattle.sat_core.proofs.learner.Learner.step.Goals as goal

pub returns-in_err-premise-clause-grew : goal.returns-in_err-premise-clause-grew
returns-in_err-premise-clause-grew c =
    let same = c.insert_all.ensures.same in
    Grew-same c.args.self.now c.insert_all.new.self same.clauses_same same.made_same same.log_same

pub refute-requires-clause-falsified : goal.refute-requires-clause-falsified
refute-requires-clause-falsified c = λ clause is. c.in_ok-premise.ensures.falsified c.in-Some.premise clause c.in-Some.is is

pub returns-in_err-search-clause-learner : goal.returns-in_err-search-clause-learner
returns-in_err-search-clause-learner c =
    let a = c.insert_all.new.self in
    learner_same a.clauses a.log a.is_refuted a.propagator c.search.new.self a.names.items a.marks.marked a.inserted_clauses a.inserted_results
    c.search.ensures.right c.search.ensures.made c.search.ensures.texts c.insert_all.ensures.learner

pub returns-in_err-search-clause-grew : goal.returns-in_err-search-clause-grew
returns-in_err-search-clause-grew c =
    let same = c.insert_all.ensures.same in
    Grew-same c.args.self.now _ same.clauses_same (c.search.ensures.made ∙ same.made_same) same.log_same

pub learn_from-requires-clause-learner : goal.learn_from-requires-clause-learner
learn_from-requires-clause-learner c =
    let a = c.insert_all.new.self in
    learner_same a.clauses a.log a.is_refuted a.propagator c.search.new.self a.names.items a.marks.marked a.inserted_clauses a.inserted_results
    c.search.ensures.right c.search.ensures.made c.search.ensures.texts c.insert_all.ensures.learner

pub learn_from-requires-clause-included : goal.learn_from-requires-clause-included
learn_from-requires-clause-included c =
    let a = c.insert_all.new.self in
    λ clause there. Includes-same (texts a.propagator.clauses.items) (texts c.search.new.self.clauses.items) c.search.ensures.texts clause (c.in_ok-premise.ensures.included c.in_default.is clause there)

pub returns-in-Full-clause-learner : goal.returns-in-Full-clause-learner
returns-in-Full-clause-learner c =
    let a = c.insert_all.new.self in
    learner_same a.clauses a.log a.is_refuted a.propagator c.search.new.self a.names.items a.marks.marked a.inserted_clauses a.inserted_results
    c.search.ensures.right c.search.ensures.made c.search.ensures.texts c.insert_all.ensures.learner

pub returns-in-Full-clause-grew : goal.returns-in-Full-clause-grew
returns-in-Full-clause-grew c =
    let same = c.insert_all.ensures.same in
    Grew-same c.args.self.now _ same.clauses_same (c.search.ensures.made ∙ same.made_same) same.log_same

pub returns-in-Full-clause-answer : goal.returns-in-Full-clause-answer
returns-in-Full-clause-answer c =
    let a = c.insert_all.new.self in
    let end = c.search.new.self in
    λ answer e. sat_answer c.args.budget (record { values = end.trail.phases; clauses = a.clauses; log = a.log; is_refuted = a.is_refuted }) answer e
    (c.insert_all.ensures.same.refuted_same ∙ c.requires.open)
    (true_within end.trail.phases a.clauses (texts end.clauses.items)
    (λ clause there. Includes-same (texts a.propagator.clauses.items) (texts end.clauses.items) c.search.ensures.texts clause
    (c.in_ok-premise.ensures.included c.in_default.is clause (Contains-append_left a.clauses (results a.log) clause there)))
    (c.in_ok-search.ensures.full c.in-Full.is))

pub returns-in_err-premise-clause-learner : goal.returns-in_err-premise-clause-learner
returns-in_err-premise-clause-learner c = c.insert_all.ensures.learner

pub returns-in_err-premise-clause-within : goal.returns-in_err-premise-clause-within
returns-in_err-premise-clause-within c =
    let a = c.insert_all.new.self in
    let same = c.insert_all.ensures.same in
    within_open a.is_refuted a.log c.args.self.now.log c.args.budget (same.refuted_same ∙ c.requires.open) same.log_same c.requires.budget

pub refute-requires-clause-learner : goal.refute-requires-clause-learner
refute-requires-clause-learner c = c.insert_all.ensures.learner

pub refute-requires-clause-over : goal.refute-requires-clause-over
refute-requires-clause-over c = over_kept c.args.self.now c.insert_all.new.self c.insert_all.ensures.same c.requires.over

pub refute-requires-clause-there : goal.refute-requires-clause-there
refute-requires-clause-there c = c.in_ok-premise.ensures.there c.in-Some.premise c.in-Some.is

pub refute-requires-clause-root : goal.refute-requires-clause-root
refute-requires-clause-root c = c.in_ok-premise.ensures.root c.in-Some.premise c.in-Some.is

pub returns-in_err-refute-clause-learner : goal.returns-in_err-refute-clause-learner
returns-in_err-refute-clause-learner c = c.refute.ensures.learner

pub returns-in_err-refute-clause-grew : goal.returns-in_err-refute-clause-grew
returns-in_err-refute-clause-grew c =
    let same = c.insert_all.ensures.same in
    Grew-trans c.args.self.now c.insert_all.new.self c.refute.new.self
    (Grew-same c.args.self.now c.insert_all.new.self same.clauses_same same.made_same same.log_same) c.refute.ensures.grew

pub returns-in_err-refute-clause-within : goal.returns-in_err-refute-clause-within
returns-in_err-refute-clause-within c =
    let r = c.refute.new.self in
    within_open r.is_refuted r.log c.args.self.now.log c.args.budget c.in_err-refute.ensures.open (c.in_err-refute.ensures.err ∙ c.insert_all.ensures.same.log_same) c.requires.budget

pub returns-in-Some-clause-learner : goal.returns-in-Some-clause-learner
returns-in-Some-clause-learner c = c.refute.ensures.learner

pub returns-in-Some-clause-grew : goal.returns-in-Some-clause-grew
returns-in-Some-clause-grew c =
    let same = c.insert_all.ensures.same in
    Grew-trans c.args.self.now c.insert_all.new.self c.refute.new.self
    (Grew-same c.args.self.now c.insert_all.new.self same.clauses_same same.made_same same.log_same) c.refute.ensures.grew

pub returns-in-Some-clause-within : goal.returns-in-Some-clause-within
returns-in-Some-clause-within c =
    let r = c.refute.new.self in
    let same = c.insert_all.ensures.same in
    within_refuted r.is_refuted r.log c.args.self.now.log c.args.budget c.in_ok-refute.ensures.refuted (c.in_ok-refute.ensures.last ∙ ap (λ (log : List LogEntry). results log ++ [] ∷ []) same.log_same) c.requires.budget

pub returns-in-Some-clause-answer : goal.returns-in-Some-clause-answer
returns-in-Some-clause-answer c = λ answer e. unsat_answer c.args.budget (seen c.refute.new.self) answer e c.in_ok-refute.ensures.refuted

pub search-requires : goal.search-requires
search-requires c = record { right = c.insert_all.ensures.learner.ready.right }

pub returns-in_err-search-clause-within : goal.returns-in_err-search-clause-within
returns-in_err-search-clause-within c =
    let a = c.insert_all.new.self in
    let same = c.insert_all.ensures.same in
    within_open a.is_refuted a.log c.args.self.now.log c.args.budget (same.refuted_same ∙ c.requires.open) same.log_same c.requires.budget

pub learn_from-requires-clause-over : goal.learn_from-requires-clause-over
learn_from-requires-clause-over c =
    subst (λ (n : ℕ). AreOver n c.insert_all.new.self.clauses) (sym c.search.ensures.made) (over_kept c.args.self.now c.insert_all.new.self c.insert_all.ensures.same c.requires.over)

pub learn_from-requires-clause-open : goal.learn_from-requires-clause-open
learn_from-requires-clause-open c = c.insert_all.ensures.same.refuted_same ∙ c.requires.open

pub learn_from-requires-clause-budget : goal.learn_from-requires-clause-budget
learn_from-requires-clause-budget c = subst (λ (log : List LogEntry). length log ≤ c.args.budget) (sym c.insert_all.ensures.same.log_same) c.requires.budget

pub returns-in_err-answer-in-False-clause-learner : goal.returns-in_err-answer-in-False-clause-learner
returns-in_err-answer-in-False-clause-learner c = c.learn_from.ensures.learner

pub returns-in_err-answer-in-False-clause-grew : goal.returns-in_err-answer-in-False-clause-grew
returns-in_err-answer-in-False-clause-grew c =
    let same = c.insert_all.ensures.same in
    Grew-trans c.args.self.now _ c.learn_from.new.self (Grew-same c.args.self.now _ same.clauses_same (c.search.ensures.made ∙ same.made_same) same.log_same) c.learn_from.ensures.grew

pub returns-in_err-answer-in-False-clause-within : goal.returns-in_err-answer-in-False-clause-within
returns-in_err-answer-in-False-clause-within c = c.learn_from.ensures.within

pub returns-in-Full-clause-within : goal.returns-in-Full-clause-within
returns-in-Full-clause-within c =
    let a = c.insert_all.new.self in
    let same = c.insert_all.ensures.same in
    within_open a.is_refuted a.log c.args.self.now.log c.args.budget (same.refuted_same ∙ c.requires.open) same.log_same c.requires.budget

pub returns-in_ok-answer-in-False-clause-learner : goal.returns-in_ok-answer-in-False-clause-learner
returns-in_ok-answer-in-False-clause-learner c = c.learn_from.ensures.learner

pub returns-in_ok-answer-in-False-clause-grew : goal.returns-in_ok-answer-in-False-clause-grew
returns-in_ok-answer-in-False-clause-grew c =
    let same = c.insert_all.ensures.same in
    Grew-trans c.args.self.now _ c.learn_from.new.self (Grew-same c.args.self.now _ same.clauses_same (c.search.ensures.made ∙ same.made_same) same.log_same) c.learn_from.ensures.grew

pub returns-in_ok-answer-in-False-clause-within : goal.returns-in_ok-answer-in-False-clause-within
returns-in_ok-answer-in-False-clause-within c = c.learn_from.ensures.within

pub returns-in_ok-answer-in-False-clause-answer : goal.returns-in_ok-answer-in-False-clause-answer
returns-in_ok-answer-in-False-clause-answer c = c.in_ok-answer-in-False.ensures.answer
