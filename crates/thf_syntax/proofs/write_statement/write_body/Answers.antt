use Rattle.std.proofs.Common.{codes}
use Rattle.outside.proofs.Writes.{on_err, stopped_first}
use Rattle.thf_names.proofs.Writes.{err_later}
use Rattle.thf_syntax.proofs.write_statement.write_body.Goals as goal

pub returns-in_err-write_name-in-Base-clause-stopped : goal.returns-in_err-write_name-in-Base-clause-stopped
returns-in_err-write_name-in-Base-clause-stopped g c = on_err c.from_residual.result
    (rw (c.in-Base.is, ← c.as_slice.ensures) (stopped_first _ (codes ": $tType") c.in_err-write_name-in-Base.ensures.stopped))

pub returns-in_ok-write_name-in-Base-clause-stopped : goal.returns-in_ok-write_name-in-Base-clause-stopped
returns-in_ok-write_name-in-Base-clause-stopped g c = rw (c.in-Base.is, ← c.as_slice.ensures)
    (err_later c.write.new.sink c.write.result _ (codes ": $tType") c.in_ok-write_name-in-Base.ensures.took c.write.ensures.stopped)
