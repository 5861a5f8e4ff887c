use Rattle.std.proofs.Common.{codes}
use Rattle.outside.proofs.Writes.{on_err, stopped_first, stopped_later}
use Rattle.thf_names.proofs.Writes.{err_later}
use Rattle.thf_syntax.proofs.write_statement.write_typing.Goals as goal

pub returns-in_err-write_name-clause-stopped : goal.returns-in_err-write_name-clause-stopped
returns-in_err-write_name-clause-stopped g c = on_err c.from_residual.result (stopped_first _ _ c.in_err-write_name.ensures.stopped)

pub returns-in_err-write-clause-stopped : goal.returns-in_err-write-clause-stopped
returns-in_err-write-clause-stopped g c = on_err c.from_residual-in_err-write.result
    (stopped_later _ _ c.in_ok-write_name.ensures.took (stopped_first (codes ": ") _ c.in_err-write.ensures.stopped))

pub returns-clause-stopped : goal.returns-clause-stopped
returns-clause-stopped g c = err_later c.write_type.new.sink c.write_type.result _ _ c.in_ok-write_name.ensures.took
    (err_later c.write_type.new.sink c.write_type.result (codes ": ") _ c.in_ok-write.ensures.took c.write_type.ensures.stopped)
