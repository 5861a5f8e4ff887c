use Rattle.std.proofs.lemmas.List.Folds.{flat_map-map}
use Rattle.thf_grammar.specs.View.{the_statement}
use Rattle.thf_syntax.specs.Texts.{statement_text}
use Rattle.outside.proofs.Writes.{on_err}
use Rattle.thf_names.proofs.Writes.{stopped_at, took_all}
use Rattle.thf_syntax.proofs.write_statement.write_statements.Goals as goal

pub returns-in_err-write_statement-clause-stopped : goal.returns-in_err-write_statement-clause-stopped
returns-in_err-write_statement-clause-stopped g c = on_err c.from_residual.result
    (rw (flat_map-map statement_text the_statement c.args.statements.now)
    (stopped_at (λ x. statement_text (the_statement x)) c.args.statements.now c.loop-statement.statement-index c.statement-item.result c.statement-item.result c.loop-statement-test.true c.statement-item.is c.loop-statement.invariant c.in_err-write_statement.ensures.stopped))

pub returns-clause-took : goal.returns-clause-took
returns-clause-took g c = rw (flat_map-map statement_text the_statement c.args.statements.now) (took_all (λ x. statement_text (the_statement x)) c.args.statements.now c.loop-statement.statement-index c.loop-statement-test.false c.loop-statement.invariant)
