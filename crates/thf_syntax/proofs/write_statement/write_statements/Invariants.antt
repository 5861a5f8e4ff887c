use Rattle.std.proofs.Common.{take}
use Rattle.std.specs.List.{flat_map}
use Rattle.thf_grammar.specs.View.{the_statement}
use Rattle.thf_syntax.specs.Texts.{statement_text}
use Rattle.outside.specs.Writing.{Took}
use Rattle.thf_syntax.proofs.write_statement.write_statements.Given as goal

abbrev pub invariant-loop-statement : goal.invariant-loop-statement
invariant-loop-statement g l =
    let sink = g.S.Sink in
    Took sink.tells sink.written sink.faults l.fn.sink l.sink (flat_map (λ s. statement_text (the_statement s)) (take l.statement-index l.statements))
