use Rattle.std.proofs.Common.{codes}
use Rattle.outside.proofs.Writes.{on_err, stopped_first, stopped_later}
use Rattle.refute_share.proofs.write_term.+write_type.Goals as goal

pub returns-in_err-write-in-Arrow-clause-stopped : goal.returns-in_err-write-in-Arrow-clause-stopped
returns-in_err-write-in-Arrow-clause-stopped g t c =
    on_err c.from_residual-in_err-write-in-Arrow.result (rw c.in-Arrow.is (stopped_first (codes "(") _ c.in_err-write-in-Arrow.ensures.stopped))

pub returns-in_err-write-in-Arrow-2-clause-stopped : goal.returns-in_err-write-in-Arrow-2-clause-stopped
returns-in_err-write-in-Arrow-2-clause-stopped g t c =
    on_err c.from_residual-in_err-write-in-Arrow-2.result (rw (c.in-Arrow.is, ← c.deref.ensures)
    (stopped_later (codes "(") _ c.in_ok-write-in-Arrow.ensures.took
    (stopped_later _ _ c.in_ok-write_type-in-Arrow.ensures.took (stopped_first (codes ">") _ c.in_err-write-in-Arrow-2.ensures.stopped))))

pub returns-in_err-write_type-in-Arrow-2-clause-stopped : goal.returns-in_err-write_type-in-Arrow-2-clause-stopped
returns-in_err-write_type-in-Arrow-2-clause-stopped g t c =
    on_err c.from_residual-in_err-write_type-in-Arrow-2.result (rw (c.in-Arrow.is, ← c.deref.ensures, ← c.deref-in-Arrow.ensures)
    (stopped_later (codes "(") _ c.in_ok-write-in-Arrow.ensures.took
    (stopped_later _ _ c.in_ok-write_type-in-Arrow.ensures.took (stopped_later (codes ">") _ c.in_ok-write-in-Arrow-2.ensures.took (stopped_first _ _ c.in_err-write_type-in-Arrow-2.ensures.stopped)))))

pub returns-in_err-write-in-Arrow-3-clause-stopped : goal.returns-in_err-write-in-Arrow-3-clause-stopped
returns-in_err-write-in-Arrow-3-clause-stopped g t c =
    on_err c.from_residual-in_err-write-in-Arrow-3.result (rw (c.in-Arrow.is, ← c.deref.ensures, ← c.deref-in-Arrow.ensures)
    (stopped_later (codes "(") _ c.in_ok-write-in-Arrow.ensures.took
    (stopped_later _ _ c.in_ok-write_type-in-Arrow.ensures.took (stopped_later (codes ">") _ c.in_ok-write-in-Arrow-2.ensures.took (stopped_later _ _ c.in_ok-write_type-in-Arrow-2.ensures.took c.in_err-write-in-Arrow-3.ensures.stopped)))))
