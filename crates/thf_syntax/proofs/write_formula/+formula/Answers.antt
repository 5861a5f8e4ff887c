use Rattle.std.proofs.Common.{codes}
use Rattle.outside.proofs.Writes.{on_err, stopped_first}
use Rattle.thf_names.proofs.Writes.{err_later}
use Rattle.thf_syntax.proofs.write_formula.+formula.Goals as goal

pub write_formula-returns-in_err-write_in-in-Binary-clause-stopped : goal.write_formula-returns-in_err-write_in-in-Binary-clause-stopped
write_formula-returns-in_err-write_in-in-Binary-clause-stopped g t c = on_err c.from_residual.result
    (rw (c.in-Binary.is, ← c.left_of.ensures, ← c.deref-in-Binary.ensures) (stopped_first _ _ c.in_err-write_in-in-Binary.ensures.stopped))

pub write_formula-returns-in_ok-write_in-in-Binary-clause-stopped : goal.write_formula-returns-in_ok-write_in-in-Binary-clause-stopped
write_formula-returns-in_ok-write_in-in-Binary-clause-stopped g t c = rw (c.in-Binary.is, ← c.left_of.ensures, ← c.deref-in-Binary.ensures, ← c.conn_text-in-Binary.ensures, ← c.deref-in-Binary-2.ensures)
    (err_later c.write_right.new.sink c.write_right.result _ _ c.in_ok-write_in-in-Binary.ensures.took c.write_right.ensures.stopped)

pub write_formula-returns-in_err-write_in-in-Equation-clause-stopped : goal.write_formula-returns-in_err-write_in-in-Equation-clause-stopped
write_formula-returns-in_err-write_in-in-Equation-clause-stopped g t c = on_err c.from_residual-in_err-write_in-in-Equation.result
    (rw (c.in-Equation.is, ← c.deref-in-Equation.ensures) (stopped_first _ _ c.in_err-write_in-in-Equation.ensures.stopped))

pub write_formula-returns-in_ok-write_in-in-Equation-clause-stopped : goal.write_formula-returns-in_ok-write_in-in-Equation-clause-stopped
write_formula-returns-in_ok-write_in-in-Equation-clause-stopped g t c = rw (c.in-Equation.is, ← c.deref-in-Equation.ensures, ← c.equality_text.ensures, ← c.deref-in-Equation-2.ensures)
    (err_later c.write_right-in-Equation.new.sink c.write_right-in-Equation.result _ _ c.in_ok-write_in-in-Equation.ensures.took c.write_right-in-Equation.ensures.stopped)

pub write_formula-returns-in_err-write_in-in-Apply-clause-stopped : goal.write_formula-returns-in_err-write_in-in-Apply-clause-stopped
write_formula-returns-in_err-write_in-in-Apply-clause-stopped g t c = on_err c.from_residual-in_err-write_in-in-Apply.result
    (rw (c.in-Apply.is, ← c.deref-in-Apply.ensures) (stopped_first _ _ c.in_err-write_in-in-Apply.ensures.stopped))

pub write_formula-returns-in_ok-write_in-in-Apply-clause-stopped : goal.write_formula-returns-in_ok-write_in-in-Apply-clause-stopped
write_formula-returns-in_ok-write_in-in-Apply-clause-stopped g t c = rw (c.in-Apply.is, ← c.deref-in-Apply.ensures, ← c.deref-in-Apply-2.ensures)
    (err_later c.write_right-in-Apply.new.sink c.write_right-in-Apply.result _ _ c.in_ok-write_in-in-Apply.ensures.took c.write_right-in-Apply.ensures.stopped)

pub write_in-returns-in_err-write-clause-stopped : goal.write_in-returns-in_err-write-clause-stopped
write_in-returns-in_err-write-clause-stopped g t c = on_err c.from_residual.result (rw (← c.takes.ensures, c.if-takes.false) (stopped_first (codes "( ") _ c.in_err-write.ensures.stopped))

pub write_right-returns-in_err-write_between-clause-stopped : goal.write_right-returns-in_err-write_between-clause-stopped
write_right-returns-in_err-write_between-clause-stopped g t c = on_err c.from_residual.result (stopped_first _ _ c.in_err-write_between.ensures.stopped)

pub write_negation-returns-in_err-write-clause-stopped : goal.write_negation-returns-in_err-write-clause-stopped
write_negation-returns-in_err-write-clause-stopped g t c = on_err c.from_residual.result (stopped_first (codes "~ ") _ c.in_err-write.ensures.stopped)

pub write_quantified-returns-clause-stopped : goal.write_quantified-returns-clause-stopped
write_quantified-returns-clause-stopped g t c = rw (← c.quantifier_text.ensures)
    (err_later c.write_right.new.sink c.write_right.result _ _ c.in_ok-write.ensures.took c.write_right.ensures.stopped)

pub write_binding-returns-in_err-write_binder-clause-stopped : goal.write_binding-returns-in_err-write_binder-clause-stopped
write_binding-returns-in_err-write_binder-clause-stopped g t c = on_err c.from_residual.result (stopped_first _ _ c.in_err-write_binder.ensures.stopped)

pub write_binding-returns-clause-stopped : goal.write_binding-returns-clause-stopped
write_binding-returns-clause-stopped g t c = err_later c.write_in.new.sink c.write_in.result _ _ c.in_ok-write_binder.ensures.took c.write_in.ensures.stopped
