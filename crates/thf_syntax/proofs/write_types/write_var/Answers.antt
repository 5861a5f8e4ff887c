use Rattle.std.proofs.Common.{codes}
use Rattle.outside.proofs.Writes.{on_err, stopped_first, stopped_later}
use Rattle.thf_names.proofs.Writes.{err_later}
use Rattle.thf_syntax.proofs.write_types.write_var.Goals as goal

pub returns-in_err-write-2-clause-stopped : goal.returns-in_err-write-2-clause-stopped
returns-in_err-write-2-clause-stopped g c = on_err c.from_residual-in_err-write-2.result
    (rw (← c.as_slice.ensures) (stopped_later _ _ c.in_ok-write.ensures.took (stopped_first _ _ c.in_err-write-2.ensures.stopped)))

pub returns-in_err-write-3-clause-stopped : goal.returns-in_err-write-3-clause-stopped
returns-in_err-write-3-clause-stopped g c = on_err c.from_residual-in_err-write-3.result
    (rw (← c.as_slice.ensures) (stopped_later _ _ c.in_ok-write.ensures.took (stopped_later _ _ c.in_ok-write-2.ensures.took (stopped_first (codes ": ") _ c.in_err-write-3.ensures.stopped))))

pub returns-clause-stopped : goal.returns-clause-stopped
returns-clause-stopped g c = rw (← c.as_slice.ensures)
    (err_later c.write_type.new.sink c.write_type.result _ _ c.in_ok-write.ensures.took
    (err_later c.write_type.new.sink c.write_type.result _ _ c.in_ok-write-2.ensures.took
    (err_later c.write_type.new.sink c.write_type.result _ _ c.in_ok-write-3.ensures.took c.write_type.ensures.stopped)))
