use Rattle.std.proofs.Common.{codes}
use Rattle.outside.proofs.Writes.{on_err, stopped_first, stopped_later}
use Rattle.thf_names.proofs.Writes.{err_later}
use Rattle.thf_syntax.proofs.write_statement.write_heading.Goals as goal

pub returns-in_err-write-clause-stopped : goal.returns-in_err-write-clause-stopped
returns-in_err-write-clause-stopped g c = on_err c.from_residual.result (stopped_first (codes "thf(") _ c.in_err-write.ensures.stopped)

pub returns-in_err-write_label-clause-stopped : goal.returns-in_err-write_label-clause-stopped
returns-in_err-write_label-clause-stopped g c = on_err c.from_residual-in_err-write_label.result
    (rw (← c.as_slice.ensures) (stopped_later (codes "thf(") _ c.in_ok-write.ensures.took (stopped_first _ _ c.in_err-write_label.ensures.stopped)))

pub returns-clause-stopped : goal.returns-clause-stopped
returns-clause-stopped g c = rw (← c.as_slice.ensures, ← c.as_slice-2.ensures)
    (err_later c.write_between.new.sink c.write_between.result (codes "thf(") _ c.in_ok-write.ensures.took
    (err_later c.write_between.new.sink c.write_between.result _ _ c.in_ok-write_label.ensures.took c.write_between.ensures.stopped))
