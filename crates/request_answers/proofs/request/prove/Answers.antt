use Rattle.std.proofs.Common.{[], refl, subst}
use Rattle.std.specs.Prelude.{option_map}
use Rattle.cli_words.specs.Requests.{prove}
use Rattle.request_answers.specs.Solved.{IsSolved}
use Rattle.request_answers.specs.Internal.Unread.{IsFilesAnswer}
use Rattle.request_answers.proofs.FileLaws.{fault_before, files_request}
use Rattle.request_answers.proofs.request.prove.Goals as goal

pub returns-in-Ok-clause-answers : goal.returns-in-Ok-clause-answers
returns-in-Ok-clause-answers g c =
    let seen = g.F.Files.seen c.args.files.now in
    let p = c.args.problem.now in
    let m = c.in-Ok.mode in
    let a = c.prove_by.result in
    files_request (prove p (option_map (λ f. f.now) c.args.mode) c.args.nodes) seen m c.in-Ok.ensures.stated [] refl a
    (subst (λ x. IsFilesAnswer (IsSolved c.args.nodes m) p x a) c.mode_by.ensures.same c.prove_by.ensures.answers)

pub returns-in-Ok-clause-fault : goal.returns-in-Ok-clause-fault
returns-in-Ok-clause-fault g c = λ k names e.
    fault_before c.args.problem.now (g.F.Files.seen c.args.files.now) (g.F.Files.seen c.mode_by.new.files) (g.F.Files.faults c.args.files.now) (g.F.Files.faults c.mode_by.new.files) (g.F.Files.faults c.prove_by.new.files) k
    c.mode_by.ensures.same c.in-Ok.ensures.quiet (c.prove_by.ensures.fault k names e)
