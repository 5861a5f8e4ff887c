use Rattle.std.proofs.Common.{◌≡◌, List, ℕ, [], Some, None, refl, sym, subst}
use Rattle.mode_file.specs.Given.{nothing_given, mode_of}
use Rattle.std.specs.Prelude.{option_map}
use Rattle.cli_words.specs.Requests.{prove, by_schedule, refutation, models, sides}
use Rattle.cli_words.specs.View.{the_request}
use Rattle.szs_report.specs.Outcomes.{outcome_of}
use Rattle.request_answers.specs.Answers.{AnswersRequest}
use Rattle.request_answers.specs.Causes.{HasCauseOf}
use Rattle.request_answers.proofs.FileLaws.{files_request, cause_of, mode_fault, schedule_fault, no_text_asked, no_text_scheduled, no_text_modelled, no_text_compared}
use Rattle.request_answers.proofs.request.answer.Goals as goal

-- no file is named
no_file_named : {R : Type 0} (name : List ℕ) → None ≡ Some name → R
no_file_named name e = cc

pub returns-in-Prove-clause-cause : goal.returns-in-Prove-clause-cause
returns-in-Prove-clause-cause g c =
    let seen = g.F.Files.seen c.args.files.now in
    let before = g.F.Files.faults c.args.files.now in
    let now = g.F.Files.faults c.prove.new.files in
    let file = option_map (λ f. f.now) c.in-Prove.mode in
    let request = prove c.in-Prove.problem.now file c.in-Prove.nodes in
    let answer = c.prove.result in
    subst (λ a. HasCauseOf (the_request a) seen before now (outcome_of answer)) (sym c.in-Prove.is)
    (cause_of request seen before now answer c.prove.ensures.fault
    (λ name is. mode_fault request seen before now name (subst (AnswersRequest request seen) is c.prove.ensures.answers) (c.prove.ensures.mode_fault name is))
    (λ name is. no_file_named name (subst (AnswersRequest request seen) is c.prove.ensures.answers))
    (λ name is. absurd (no_text_asked c.in-Prove.problem.now file c.in-Prove.nodes seen name (subst (AnswersRequest request seen) is c.prove.ensures.answers)))
    c.prove.ensures.quiet)

pub returns-in-BySchedule-clause-cause : goal.returns-in-BySchedule-clause-cause
returns-in-BySchedule-clause-cause g c =
    let seen = g.F.Files.seen c.args.files.now in
    let before = g.F.Files.faults c.args.files.now in
    let now = g.F.Files.faults c.prove_by_schedule.new.files in
    let file = c.in-BySchedule.schedule.now in
    let request = by_schedule file c.in-BySchedule.problem.now in
    let answer = c.prove_by_schedule.result in
    subst (λ a. HasCauseOf (the_request a) seen before now (outcome_of answer)) (sym c.in-BySchedule.is)
    (cause_of request seen before now answer c.prove_by_schedule.ensures.fault
    (λ name is. no_file_named name (subst (AnswersRequest request seen) is c.prove_by_schedule.ensures.answers))
    (λ name is. schedule_fault request seen before now name (subst (AnswersRequest request seen) is c.prove_by_schedule.ensures.answers) (c.prove_by_schedule.ensures.schedule_fault name is))
    (λ name is. absurd (no_text_scheduled file c.in-BySchedule.problem.now seen name (subst (AnswersRequest request seen) is c.prove_by_schedule.ensures.answers)))
    c.prove_by_schedule.ensures.quiet)

pub returns-in-Check-clause-answers : goal.returns-in-Check-clause-answers
returns-in-Check-clause-answers g c =
    let seen = g.F.Files.seen c.args.files.now in
    subst (λ a. AnswersRequest (the_request a) seen c.check.result) (sym c.in-Check.is)
    (files_request (refutation c.in-Check.cuts c.in-Check.text.now c.in-Check.problem.now) seen (mode_of nothing_given) refl [] refl c.check.result c.check.ensures.answers)

pub returns-in-Demo-clause-answers : goal.returns-in-Demo-clause-answers
returns-in-Demo-clause-answers g c =
    let seen = g.F.Files.seen c.args.files.now in
    subst (λ a. AnswersRequest (the_request a) seen c.demo.result) (sym c.in-Demo.is) (c.demo.ensures.answers seen)

pub returns-in-Models-clause-answers : goal.returns-in-Models-clause-answers
returns-in-Models-clause-answers g c =
    let seen = g.F.Files.seen c.args.files.now in
    subst (λ a. AnswersRequest (the_request a) seen c.look_in.result) (sym c.in-Models.is)
    (files_request (models c.in-Models.upto c.in-Models.problem.now) seen (mode_of nothing_given) refl [] refl c.look_in.result c.look_in.ensures.answers)

pub returns-in-Models-clause-cause : goal.returns-in-Models-clause-cause
returns-in-Models-clause-cause g c =
    let seen = g.F.Files.seen c.args.files.now in
    let before = g.F.Files.faults c.args.files.now in
    let now = g.F.Files.faults c.look_in.new.files in
    let request = models c.in-Models.upto c.in-Models.problem.now in
    let answer = c.look_in.result in
    let answers : AnswersRequest request seen answer = files_request request seen (mode_of nothing_given) refl [] refl answer c.look_in.ensures.answers in
    subst (λ a. HasCauseOf (the_request a) seen before now (outcome_of answer)) (sym c.in-Models.is)
    (cause_of request seen before now answer c.look_in.ensures.fault
    (λ name is. no_file_named name (subst (AnswersRequest request seen) is answers))
    (λ name is. no_file_named name (subst (AnswersRequest request seen) is answers))
    (λ name is. absurd (no_text_modelled c.in-Models.upto c.in-Models.problem.now seen name (subst (AnswersRequest request seen) is answers)))
    c.look_in.ensures.quiet)

pub returns-in-Same-clause-answers : goal.returns-in-Same-clause-answers
returns-in-Same-clause-answers g c =
    let seen = g.F.Files.seen c.args.files.now in
    subst (λ a. AnswersRequest (the_request a) seen c.compare_in.result) (sym c.in-Same.is)
    (files_request (sides c.in-Same.problem.now) seen (mode_of nothing_given) refl [] refl c.compare_in.result c.compare_in.ensures.answers)

pub returns-in-Same-clause-cause : goal.returns-in-Same-clause-cause
returns-in-Same-clause-cause g c =
    let seen = g.F.Files.seen c.args.files.now in
    let before = g.F.Files.faults c.args.files.now in
    let now = g.F.Files.faults c.compare_in.new.files in
    let request = sides c.in-Same.problem.now in
    let answer = c.compare_in.result in
    let answers : AnswersRequest request seen answer = files_request request seen (mode_of nothing_given) refl [] refl answer c.compare_in.ensures.answers in
    subst (λ a. HasCauseOf (the_request a) seen before now (outcome_of answer)) (sym c.in-Same.is)
    (cause_of request seen before now answer c.compare_in.ensures.fault
    (λ name is. no_file_named name (subst (AnswersRequest request seen) is answers))
    (λ name is. no_file_named name (subst (AnswersRequest request seen) is answers))
    (λ name is. absurd (no_text_compared c.in-Same.problem.now seen name (subst (AnswersRequest request seen) is answers)))
    c.compare_in.ensures.quiet)
