use Rattle.std.proofs.Common.{◌∙◌}
use Rattle.outside.proofs.Writes.{on_err}
use Rattle.problem_gen.proofs.Writes.{took_as, stopped_as}
use Rattle.problem_gen.proofs.Pieces.{implication_pieces}
use Rattle.problem_gen.proofs.write.write_implication.Goals as goal

pub returns-clause-took : goal.returns-clause-took
returns-clause-took g c =
    let wrote = c.in_ok-write_pieces.ensures in
    took_as _ _ (implication_pieces c.args.j _ _ (c.as_bytes-from.ensures.value ∙ c.format.ensures.text) (c.as_bytes-to.ensures.value ∙ c.format-2.ensures.text)) wrote.appended wrote.quiet wrote.telling

pub returns-in_err-write_pieces-clause-stopped : goal.returns-in_err-write_pieces-clause-stopped
returns-in_err-write_pieces-clause-stopped g c =
    let wrote = c.in_err-write_pieces.ensures in
    on_err c.from_residual.result
    (stopped_as _ _ (implication_pieces c.args.j _ _ (c.as_bytes-from.ensures.value ∙ c.format.ensures.text) (c.as_bytes-to.ensures.value ∙ c.format-2.ensures.text)) wrote.failed wrote.cause wrote.later wrote.telling)
