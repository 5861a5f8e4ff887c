use Rattle.thf_include.specs.View.{the_statements}
use Rattle.read_bound.proofs.ReadLaws.{readings_modest}
use Rattle.test_search.proofs.problem.problem_in.Goals as goal

pub returns-clause-modest : goal.returns-clause-modest
returns-clause-modest g c =
    let h = c.in-Ok.ensures.gathered in
    readings_modest h.texts c.args.name.now c.gather.new.names (the_statements c.in-Ok.gathered) c.in-Ok-checked.problem h.answered.0 c.in-Ok-checked.ensures.read
