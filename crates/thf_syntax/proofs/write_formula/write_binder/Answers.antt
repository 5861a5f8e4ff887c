use Rattle.std.proofs.Common.{codes}
use Rattle.outside.proofs.Writes.{on_err, stopped_first, stopped_later}
use Rattle.thf_names.proofs.Writes.{err_later}
use Rattle.thf_syntax.proofs.write_formula.write_binder.Goals as goal

pub returns-in_err-write-clause-stopped : goal.returns-in_err-write-clause-stopped
returns-in_err-write-clause-stopped g c = on_err c.from_residual.result
    (rw (← c.binder_text.ensures) (stopped_first _ _ c.in_err-write.ensures.stopped))

pub returns-in_err-write-2-clause-stopped : goal.returns-in_err-write-2-clause-stopped
returns-in_err-write-2-clause-stopped g c = on_err c.from_residual-in_err-write-2.result
    (rw (← c.binder_text.ensures) (stopped_later _ _ c.in_ok-write.ensures.took (stopped_first (codes " [") _ c.in_err-write-2.ensures.stopped)))

pub returns-in_err-write_vars-clause-stopped : goal.returns-in_err-write_vars-clause-stopped
returns-in_err-write_vars-clause-stopped g c = on_err c.from_residual-in_err-write_vars.result
    (rw (← c.binder_text.ensures) (stopped_later _ _ c.in_ok-write.ensures.took (stopped_later (codes " [") _ c.in_ok-write-2.ensures.took (stopped_first _ (codes "] : ") c.in_err-write_vars.ensures.stopped))))

pub returns-clause-stopped : goal.returns-clause-stopped
returns-clause-stopped g c = rw (← c.binder_text.ensures)
    (err_later c.write-3.new.sink c.write-3.result _ _ c.in_ok-write.ensures.took
    (err_later c.write-3.new.sink c.write-3.result (codes " [") _ c.in_ok-write-2.ensures.took
    (err_later c.write-3.new.sink c.write-3.result _ (codes "] : ") c.in_ok-write_vars.ensures.took c.write-3.ensures.stopped)))
