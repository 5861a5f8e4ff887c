use Rattle.std.proofs.Common.{codes}
use Rattle.outside.proofs.Writes.{on_err, stopped_first, stopped_later}
use Rattle.thf_names.proofs.Writes.{err_later}
use Rattle.thf_syntax.proofs.write_statement.write_annotated.Goals as goal

pub returns-in_err-write_heading-clause-stopped : goal.returns-in_err-write_heading-clause-stopped
returns-in_err-write_heading-clause-stopped g c = on_err c.from_residual.result (stopped_first _ _ c.in_err-write_heading.ensures.stopped)

pub returns-in_err-write_body-clause-stopped : goal.returns-in_err-write_body-clause-stopped
returns-in_err-write_body-clause-stopped g c = on_err c.from_residual-in_err-write_body.result
    (stopped_later _ _ c.in_ok-write_heading.ensures.took (stopped_first _ (codes ").\n") c.in_err-write_body.ensures.stopped))

pub returns-clause-stopped : goal.returns-clause-stopped
returns-clause-stopped g c = err_later c.write.new.sink c.write.result _ _ c.in_ok-write_heading.ensures.took
    (err_later c.write.new.sink c.write.result _ (codes ").\n") c.in_ok-write_body.ensures.took c.write.ensures.stopped)
