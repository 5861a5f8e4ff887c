use Rattle.outside.proofs.Writes.{on_err, stopped_first, stopped_later}
use Rattle.refute_share.proofs.Writes.{took_after, stopped_after}
use Rattle.refute_share.proofs.write_term.write_term_between.Goals as goal

pub returns-in_err-write-clause-stopped : goal.returns-in_err-write-clause-stopped
returns-in_err-write-clause-stopped g c =
    on_err c.from_residual.result (stopped_first c.args.before.now _ c.in_err-write.ensures.stopped)

pub returns-in_err-write_term-clause-stopped : goal.returns-in_err-write_term-clause-stopped
returns-in_err-write_term-clause-stopped g c =
    on_err c.from_residual-in_err-write_term.result
    (stopped_later c.args.before.now _ c.in_ok-write.ensures.took (stopped_first _ c.args.after.now c.in_err-write_term.ensures.stopped))

pub returns-clause-took : goal.returns-clause-took
returns-clause-took g c =
    took_after _ _ _ _ _ c.write-2.result c.args.before.now _ c.in_ok-write.ensures.took (took_after _ _ _ _ _ c.write-2.result _ c.args.after.now c.in_ok-write_term.ensures.took c.write-2.ensures.took)

pub returns-clause-stopped : goal.returns-clause-stopped
returns-clause-stopped g c =
    stopped_after _ _ _ _ _ c.write-2.result c.args.before.now _ c.in_ok-write.ensures.took (stopped_after _ _ _ _ _ c.write-2.result _ c.args.after.now c.in_ok-write_term.ensures.took c.write-2.ensures.stopped)
