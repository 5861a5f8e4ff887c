use Rattle.thf_grammar.specs.View.{the_file}
use Rattle.thf_syntax.proofs.LawProofs.{took-appends}
use Rattle.thf_syntax.proofs.write_statement.write_surface.Goals as goal

pub returns-clause-law : goal.returns-clause-law
returns-clause-law g c = rw (← c.as_slice.ensures) (took-appends (the_file c.as_slice.result.now) c.in_ok-write_statements.ensures.took)
