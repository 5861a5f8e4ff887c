use Rattle.std.proofs.Common.{codes}
use Rattle.outside.proofs.Writes.{on_err, stopped_first, stopped_later}
use Rattle.thf_names.proofs.Writes.{err_later}
use Rattle.thf_syntax.proofs.write_types.+types.Goals as goal

pub write_argument_type-returns-in_err-write-clause-stopped : goal.write_argument_type-returns-in_err-write-clause-stopped
write_argument_type-returns-in_err-write-clause-stopped g t c = on_err c.from_residual.result
    (rw (← c.is_simple.ensures, c.if-is_simple.false) (stopped_first (codes "( ") _ c.in_err-write.ensures.stopped))

pub write_type-returns-in_err-write-in-Arrow-clause-stopped : goal.write_type-returns-in_err-write-in-Arrow-clause-stopped
write_type-returns-in_err-write-in-Arrow-clause-stopped g t c = on_err c.from_residual-in_err-write-in-Arrow.result
    (rw (c.in-Arrow.is, ← c.deref.ensures) (stopped_later _ _ c.in_ok-write_argument_type-in-Arrow.ensures.took (stopped_first (codes " > ") _ c.in_err-write-in-Arrow.ensures.stopped)))

pub write_type-returns-in_ok-write-in-Arrow-clause-stopped : goal.write_type-returns-in_ok-write-in-Arrow-clause-stopped
write_type-returns-in_ok-write-in-Arrow-clause-stopped g t c = rw (c.in-Arrow.is, ← c.deref.ensures, ← c.deref-in-Arrow.ensures)
    (err_later c.write_type.new.sink c.write_type.result _ _ c.in_ok-write_argument_type-in-Arrow.ensures.took
    (err_later c.write_type.new.sink c.write_type.result _ _ c.in_ok-write-in-Arrow.ensures.took c.write_type.ensures.stopped))
