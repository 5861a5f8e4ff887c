use Rattle.outside.proofs.Writes.{on_err, stopped_first, stopped_later}
use Rattle.refute_share.proofs.Writes.{took_after, stopped_after}
use Rattle.refute_share.proofs.write_line.write_line_end.Goals as goal

pub returns-in_err-write-clause-stopped : goal.returns-in_err-write-clause-stopped
returns-in_err-write-clause-stopped g c =
    on_err c.from_residual.result
    (stopped_first _ _ c.in_err-write.ensures.stopped)

pub returns-in_err-write_branch-clause-stopped : goal.returns-in_err-write_branch-clause-stopped
returns-in_err-write_branch-clause-stopped g c = rw (← c.line.view_is)
    (on_err c.from_residual-in_err-write_branch.result
    (stopped_later _ _ c.in_ok-write.ensures.took (stopped_first _ _ c.in_err-write_branch.ensures.stopped)))

pub returns-in_err-write-2-clause-stopped : goal.returns-in_err-write-2-clause-stopped
returns-in_err-write-2-clause-stopped g c = rw (← c.line.view_is)
    (on_err c.from_residual-in_err-write-2.result
    (stopped_later _ _ c.in_ok-write.ensures.took (stopped_later _ _ c.in_ok-write_branch.ensures.took (stopped_first _ _ c.in_err-write-2.ensures.stopped))))

pub returns-in_err-write_children-clause-stopped : goal.returns-in_err-write_children-clause-stopped
returns-in_err-write_children-clause-stopped g c = rw (← c.line.view_is)
    (on_err c.from_residual-in_err-write_children.result
    (stopped_later _ _ c.in_ok-write.ensures.took (stopped_later _ _ c.in_ok-write_branch.ensures.took (stopped_later _ _ c.in_ok-write-2.ensures.took (stopped_first _ _ c.in_err-write_children.ensures.stopped)))))

pub returns-clause-took : goal.returns-clause-took
returns-clause-took g c =
    let r = c.write-3.result in
    rw (← c.line.view_is) (took_after _ _ _ _ _ r _ _ c.in_ok-write.ensures.took (took_after _ _ _ _ _ r _ _ c.in_ok-write_branch.ensures.took (took_after _ _ _ _ _ r _ _ c.in_ok-write-2.ensures.took (took_after _ _ _ _ _ r _ _ c.in_ok-write_children.ensures.took c.write-3.ensures.took))))

pub returns-clause-stopped : goal.returns-clause-stopped
returns-clause-stopped g c =
    let r = c.write-3.result in
    rw (← c.line.view_is) (stopped_after _ _ _ _ _ r _ _ c.in_ok-write.ensures.took (stopped_after _ _ _ _ _ r _ _ c.in_ok-write_branch.ensures.took (stopped_after _ _ _ _ _ r _ _ c.in_ok-write-2.ensures.took (stopped_after _ _ _ _ _ r _ _ c.in_ok-write_children.ensures.took c.write-3.ensures.stopped))))
