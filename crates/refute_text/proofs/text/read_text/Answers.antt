use Rattle.outside.specs.Lines.{lines_of}
use Rattle.refute_text.proofs.Bodies.{read_from, one_answer}
use Rattle.refute_text.proofs.text.read_text.Goals as goal

pub returns-in-Ok-clause-reads : goal.returns-in-Ok-clause-reads
returns-in-Ok-clause-reads c =
    read_from (lines_of c.args.bytes.now) c.in-Ok.start.line (lines_of c.in-Ok.start.bytes.now) c.read_behind.result c.in-Ok.ensures.found c.read_behind.ensures.held c.read_behind.ensures.place c.read_behind.ensures.numbered c.read_behind.ensures.refused

pub returns-in-Ok-clause-only : goal.returns-in-Ok-clause-only
returns-in-Ok-clause-only c = one_answer (lines_of c.args.bytes.now) c.read_behind.result (returns-in-Ok-clause-reads c)
