use Rattle.std.proofs.Common.{List, Err, refl, sym, ap, subst, ◌∙◌}
use Rattle.outside.specs.Causes.{Rose}
use Rattle.mode_file.specs.Given.{nothing_given, mode_of}
use Rattle.mode_schedule.specs.declared.Block.{Block}
use Rattle.cli_words.specs.Requests.{by_schedule}
use Rattle.szs_report.specs.declared.answer.Answer.TheVariants.{ReadFault}
use Rattle.szs_report.specs.declared.answer.NamedFile.TheVariants as named
use Rattle.request_answers.specs.Solved.{IsSolvedInTurns}
use Rattle.request_answers.specs.Internal.Unread.{IsFilesAnswer, IsUnreadSchedule}
use Rattle.request_answers.proofs.FileLaws.{fault_before, files_request, files_not_guide, schedule_request}
use Rattle.request_answers.proofs.request.prove_by_schedule.Goals as goal

pub returns-in-Ok-clause-answers : goal.returns-in-Ok-clause-answers
returns-in-Ok-clause-answers g c =
    let seen = g.F.Files.seen c.args.files.now in
    let p = c.args.problem.now in
    let bs = c.in-Ok.blocks.items in
    let a = c.prove_in_turns.result in
    files_request (by_schedule c.args.schedule.now p) seen (mode_of nothing_given) refl bs c.in-Ok.ensures.stated a
    (subst (λ (x : List Block). IsFilesAnswer (IsSolvedInTurns x) p seen a) c.as_slice.ensures.value
    (subst (λ x. IsFilesAnswer (IsSolvedInTurns c.as_slice.result.now) p x a) c.read_schedule_file.ensures.same c.prove_in_turns.ensures.answers))

pub returns-in-Ok-clause-fault : goal.returns-in-Ok-clause-fault
returns-in-Ok-clause-fault g c = λ k names e.
    fault_before c.args.problem.now (g.F.Files.seen c.args.files.now) (g.F.Files.seen c.read_schedule_file.new.files) (g.F.Files.faults c.args.files.now) (g.F.Files.faults c.read_schedule_file.new.files) (g.F.Files.faults c.prove_in_turns.new.files) k
    c.read_schedule_file.ensures.same c.in-Ok.ensures.quiet (c.prove_in_turns.ensures.fault k names e)

pub returns-in-Ok-clause-schedule_fault : goal.returns-in-Ok-clause-schedule_fault
returns-in-Ok-clause-schedule_fault g c = λ own e.
    let seen = g.F.Files.seen c.read_schedule_file.new.files in
    let p = c.args.problem.now in
    let bs = c.as_slice.result.now in
    absurd (files_not_guide (by_schedule c.args.schedule.now p) seen (mode_of nothing_given) bs (ReadFault (named.Schedule own)) tt
    (subst (IsFilesAnswer (IsSolvedInTurns bs) p seen) e c.prove_in_turns.ensures.answers))

pub returns-in-Err-clause-schedule_fault : goal.returns-in-Err-clause-schedule_fault
returns-in-Err-clause-schedule_fault g c = λ own e.
    let seen = g.F.Files.seen c.args.files.now in
    let file = c.args.schedule.now in
    let is_file = subst (IsUnreadSchedule seen file) e c.in-Err.ensures.unread in
    subst (λ n. Rose (g.F.Files.faults c.args.files.now n) (g.F.Files.faults c.read_schedule_file.new.files n)) (sym is_file) (c.read_schedule_file.ensures.fault own (c.in-Err.is ∙ ap Err e))

pub returns-in-Err-clause-answers : goal.returns-in-Err-clause-answers
returns-in-Err-clause-answers g c =
    schedule_request c.args.schedule.now c.args.problem.now (g.F.Files.seen c.args.files.now) c.in-Err.answer c.in-Err.ensures.unread
