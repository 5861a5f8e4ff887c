use Rattle.std.proofs.Common.{codes}
use Rattle.outside.proofs.Writes.{on_err, stopped_first}
use Rattle.refute_share.proofs.Writes.{took_after, stopped_after}
use Rattle.refute_share.proofs.write_term.write_opened_head.Goals as goal

pub returns-in-Not-clause-took : goal.returns-in-Not-clause-took
returns-in-Not-clause-took g c =
    rw (c.in-Not.is) c.write.ensures.took

pub returns-in-Not-clause-stopped : goal.returns-in-Not-clause-stopped
returns-in-Not-clause-stopped g c =
    rw (c.in-Not.is) c.write.ensures.stopped

pub returns-in-Imp-clause-took : goal.returns-in-Imp-clause-took
returns-in-Imp-clause-took g c =
    rw (c.in-Imp.is) c.write-in-Imp.ensures.took

pub returns-in-Imp-clause-stopped : goal.returns-in-Imp-clause-stopped
returns-in-Imp-clause-stopped g c =
    rw (c.in-Imp.is) c.write-in-Imp.ensures.stopped

pub returns-in_err-write-in_default-clause-stopped : goal.returns-in_err-write-in_default-clause-stopped
returns-in_err-write-in_default-clause-stopped g c =
    on_err c.from_residual.result (stopped_first (codes "(") _ c.in_err-write-in_default.ensures.stopped)

pub returns-in_ok-write-in_default-clause-took : goal.returns-in_ok-write-in_default-clause-took
returns-in_ok-write-in_default-clause-took g c =
    took_after _ _ _ _ _ c.write_head.result (codes "(") _ c.in_ok-write-in_default.ensures.took c.write_head.ensures.took

pub returns-in_ok-write-in_default-clause-stopped : goal.returns-in_ok-write-in_default-clause-stopped
returns-in_ok-write-in_default-clause-stopped g c =
    stopped_after _ _ _ _ _ c.write_head.result (codes "(") _ c.in_ok-write-in_default.ensures.took c.write_head.ensures.stopped
