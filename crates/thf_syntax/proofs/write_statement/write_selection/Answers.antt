use Rattle.std.proofs.Common.{codes}
use Rattle.outside.proofs.Writes.{on_err, stopped_first, stopped_later}
use Rattle.thf_names.proofs.Writes.{err_later}
use Rattle.thf_syntax.proofs.write_statement.write_selection.Goals as goal

pub returns-in_err-write-in-Some-clause-stopped : goal.returns-in_err-write-in-Some-clause-stopped
returns-in_err-write-in-Some-clause-stopped g c = on_err c.from_residual.result (rw c.in-Some.is (stopped_first (codes ",[") _ c.in_err-write-in-Some.ensures.stopped))

pub returns-in_err-write_labels-in-Some-clause-stopped : goal.returns-in_err-write_labels-in-Some-clause-stopped
returns-in_err-write_labels-in-Some-clause-stopped g c = on_err c.from_residual-in_err-write_labels-in-Some.result
    (rw (c.in-Some.is, ← c.as_slice.ensures) (stopped_later (codes ",[") _ c.in_ok-write-in-Some.ensures.took (stopped_first _ (codes "]") c.in_err-write_labels-in-Some.ensures.stopped)))

pub returns-in_ok-write_labels-in-Some-clause-stopped : goal.returns-in_ok-write_labels-in-Some-clause-stopped
returns-in_ok-write_labels-in-Some-clause-stopped g c = rw (c.in-Some.is, ← c.as_slice.ensures)
    (err_later c.write-in-Some.new.sink c.write-in-Some.result (codes ",[") _ c.in_ok-write-in-Some.ensures.took
    (err_later c.write-in-Some.new.sink c.write-in-Some.result _ (codes "]") c.in_ok-write_labels-in-Some.ensures.took c.write-in-Some.ensures.stopped))
