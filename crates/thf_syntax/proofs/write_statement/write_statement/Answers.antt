use Rattle.std.proofs.Common.{codes}
use Rattle.outside.proofs.Writes.{on_err, stopped_first, stopped_later}
use Rattle.thf_names.proofs.Writes.{err_later}
use Rattle.thf_syntax.proofs.write_statement.write_statement.Goals as goal

pub returns-in_err-write-in-Include-clause-stopped : goal.returns-in_err-write-in-Include-clause-stopped
returns-in_err-write-in-Include-clause-stopped g c = on_err c.from_residual.result (rw c.in-Include.is (stopped_first (codes "include(") _ c.in_err-write-in-Include.ensures.stopped))

pub returns-in_err-write_quoted-in-Include-clause-stopped : goal.returns-in_err-write_quoted-in-Include-clause-stopped
returns-in_err-write_quoted-in-Include-clause-stopped g c = on_err c.from_residual-in_err-write_quoted-in-Include.result
    (rw (c.in-Include.is, ← c.as_slice.ensures) (stopped_later (codes "include(") _ c.in_ok-write-in-Include.ensures.took (stopped_first _ _ c.in_err-write_quoted-in-Include.ensures.stopped)))

pub returns-in_err-write_selection-in-Include-clause-stopped : goal.returns-in_err-write_selection-in-Include-clause-stopped
returns-in_err-write_selection-in-Include-clause-stopped g c = on_err c.from_residual-in_err-write_selection-in-Include.result
    (rw (c.in-Include.is, ← c.as_slice.ensures) (stopped_later (codes "include(") _ c.in_ok-write-in-Include.ensures.took
    (stopped_later _ _ c.in_ok-write_quoted-in-Include.ensures.took (stopped_first _ (codes ").\n") c.in_err-write_selection-in-Include.ensures.stopped))))

pub returns-in_ok-write_selection-in-Include-clause-stopped : goal.returns-in_ok-write_selection-in-Include-clause-stopped
returns-in_ok-write_selection-in-Include-clause-stopped g c = rw (c.in-Include.is, ← c.as_slice.ensures)
    (err_later c.write-in-Include.new.sink c.write-in-Include.result (codes "include(") _ c.in_ok-write-in-Include.ensures.took
    (err_later c.write-in-Include.new.sink c.write-in-Include.result _ _ c.in_ok-write_quoted-in-Include.ensures.took
    (err_later c.write-in-Include.new.sink c.write-in-Include.result _ (codes ").\n") c.in_ok-write_selection-in-Include.ensures.took c.write-in-Include.ensures.stopped)))
