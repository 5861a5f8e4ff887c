use Rattle.thf_include.specs.View.{the_statements}
use Rattle.read_bound.proofs.ReadLaws.{readings_modest}
use Rattle.request_answers.proofs.PrintableLaws.{gathered_printable}
use Rattle.request_answers.proofs.stated.read_problem.Goals as goal

pub check_problem-requires-clause-printable : goal.check_problem-requires-clause-printable
check_problem-requires-clause-printable g c =
    let h = c.in-Ok.ensures.gathered in
    gathered_printable h.texts c.args.name.now c.gather.new.names (the_statements c.in-Ok.gathered) h.answered.0

pub check_problem-requires-clause-modest : goal.check_problem-requires-clause-modest
check_problem-requires-clause-modest g c = λ p read.
    let h = c.in-Ok.ensures.gathered in
    readings_modest h.texts c.args.name.now c.gather.new.names (the_statements c.in-Ok.gathered) p h.answered.0 read
