use Rattle.std.proofs.Common.{ℕ, List, Some, Err, true, ◌≡◌, refl, sym, ap, subst, ◌∙◌, arith}
use Rattle.outside.specs.Seen.{Seen}
use Rattle.mode_file.specs.Given.{nothing_given, mode_of}
use Rattle.cli_words.specs.Requests.{generated}
use Rattle.refute_text.specs.Reading.{is_one_line}
use Rattle.request_answers.specs.Requested.{problem_name}
use Rattle.request_answers.specs.Files.{OfFiles, Statements}
use Rattle.request_answers.specs.Solved.{IsDemoed}
use Rattle.request_answers.specs.Internal.Unread.{IsUnread}
use Rattle.request_answers.proofs.AnswerLaws.{unread_answers, stated_answers}
use Rattle.request_answers.proofs.FileLaws.{demo_request, unread_no_fault}
use Rattle.request_answers.proofs.OneLine.{demo_one_line}
use Rattle.request_answers.proofs.demo.demo.Goals as goal

pub demo_answer-requires-clause-named : goal.demo_answer-requires-clause-named
demo_answer-requires-clause-named c = subst (λ x. is_one_line x ≡ true) (sym c.requires.named) (demo_one_line c.args.n)

pub returns-in-Ok-read_problem-clause-answers : goal.returns-in-Ok-read_problem-clause-answers
returns-in-Ok-read_problem-clause-answers c =
    let one : Seen = record { tells = true; contents = λ f. Some c.new-files.result.bytes } in
    let p = c.in-Ok-read_problem.problem in
    let stated = subst (λ x. (names : List (List ℕ)) × OfFiles x one names (Statements p)) c.requires.named c.in-Ok-read_problem.ensures.stated in
    demo_request c.args.n one refl (λ f. c.new-files.ensures.contents f ∙ ap Some c.in-Ok.ensures) c.demo_answer.result
    (stated_answers (IsDemoed (mode_of nothing_given)) (problem_name (generated c.args.n)) one p c.demo_answer.result stated.0 stated.1 c.demo_answer.ensures)

pub returns-clause-answers : goal.returns-clause-answers
returns-clause-answers c =
    let one : Seen = record { tells = true; contents = λ f. Some c.new-files.result.bytes } in
    let unread = subst (λ x. IsUnread x one c.in-Err.answer) c.requires.named c.in-Err.ensures.unread in
    demo_request c.args.n one refl (λ f. c.new-files.ensures.contents f ∙ ap Some c.in-Ok.ensures) c.in-Err.answer
    (unread_answers (IsDemoed (mode_of nothing_given)) (problem_name (generated c.args.n)) one c.in-Err.answer unread)

pub returns-clause-quiet : goal.returns-clause-quiet
returns-clause-quiet c =
    let one : Seen = record { tells = true; contents = λ f. Some c.new-files.result.bytes } in
    unread_no_fault c.args.name.now one c.in-Err.answer (λ k names e. let h = c.read_problem.ensures.fault k names (c.in-Err.is ∙ ap Err e) in let rose = h.rose in omega (arith, rose)) c.in-Err.ensures.unread
