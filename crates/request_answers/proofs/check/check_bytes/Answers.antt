use Rattle.std.proofs.Common.{subst, sym}
use Rattle.refute_print.specs.TextView.{the_text}
use Rattle.request_answers.specs.Checked.{AnswersBytes}
use Rattle.request_answers.proofs.CheckedLaws.{unread_answers, failed_answers}
use Rattle.request_answers.proofs.check.check_bytes.Goals as goal

pub returns-in-Ok : goal.returns-in-Ok
returns-in-Ok c =
    let p = c.args.problem.now in
    subst (AnswersBytes c.args.cuts p c.args.bytes.now) (sym c.failed_answer.ensures)
    (failed_answers c.args.cuts p c.args.bytes.now (the_text c.in-Ok.text) c.in-Ok.text.first c.in-Err-check_by.refused c.in-Ok.ensures.reads c.in-Err-check_by.ensures.refused)

pub returns : goal.returns
returns c =
    let p = c.args.problem.now in
    subst (AnswersBytes c.args.cuts p c.args.bytes.now) (sym c.unread_answer.ensures)
    (unread_answers c.args.cuts p c.args.bytes.now c.in-Err.refused c.in-Err.ensures.reads)
