use Rattle.thf_include.specs.View.{the_statements}
use Rattle.request_answers.proofs.StatedLaws.{stated_has_texts}
use Rattle.request_answers.proofs.stated.check_problem.Goals as goal

pub returns-in-Ok-clause-texts : goal.returns-in-Ok-clause-texts
returns-in-Ok-clause-texts c =
    let p = c.in-Ok.problem in
    let read = c.in-Ok.ensures.read in
    stated_has_texts (the_statements c.args.gathered) p read (c.requires.modest p read) c.requires.printable
