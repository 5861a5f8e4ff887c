use Rattle.outside.proofs.Writes.{on_err, stopped_first}
use Rattle.thf_names.proofs.Writes.{err_later}
use Rattle.thf_syntax.proofs.write_statement.write_selected.Goals as goal

pub returns-in_err-write-clause-stopped : goal.returns-in_err-write-clause-stopped
returns-in_err-write-clause-stopped g c = on_err c.from_residual.result (stopped_first _ _ c.in_err-write.ensures.stopped)

pub returns-clause-stopped : goal.returns-clause-stopped
returns-clause-stopped g c = rw (← c.as_slice.ensures) (err_later c.write_label.new.sink c.write_label.result _ _ c.in_ok-write.ensures.took c.write_label.ensures.stopped)
