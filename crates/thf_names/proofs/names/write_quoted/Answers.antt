use Rattle.outside.proofs.Writes.{on_err, took_both, stopped_first, stopped_later}
use Rattle.thf_names.proofs.names.write_quoted.Goals as goal

pub returns-in_err-write-clause-stopped : goal.returns-in_err-write-clause-stopped
returns-in_err-write-clause-stopped g c =
    on_err c.from_residual.result
    (stopped_first _ _ c.in_err-write.ensures.stopped)

pub returns-in_err-write_characters-clause-stopped : goal.returns-in_err-write_characters-clause-stopped
returns-in_err-write_characters-clause-stopped g c =
    on_err c.from_residual-in_err-write_characters.result
    (stopped_later _ _ c.in_ok-write.ensures.took (stopped_first _ _ c.in_err-write_characters.ensures.stopped))

pub returns-in_err-write-2-clause-stopped : goal.returns-in_err-write-2-clause-stopped
returns-in_err-write-2-clause-stopped g c =
    on_err c.from_residual-in_err-write-2.result
    (stopped_later _ _ c.in_ok-write.ensures.took (stopped_later _ _ c.in_ok-write_characters.ensures.took c.in_err-write-2.ensures.stopped))

pub returns-clause-took : goal.returns-clause-took
returns-clause-took g c =
    took_both _ _ c.in_ok-write.ensures.took (took_both _ _ c.in_ok-write_characters.ensures.took c.in_ok-write-2.ensures.took)
