use Rattle.std.proofs.Common.{refl, subst}
use Rattle.delta_defs.specs.Unfolding.{unfolded_problem}
use Rattle.delta_defs.proofs.KeptModels.{taken_declared}
use Rattle.mode_schedule.specs.Scheduled.{EndsBy}
use Rattle.request_answers.proofs.SolvedLaws.{block_named, proof_of_block}
use Rattle.request_answers.proofs.turns.scheduled_answer.Goals as goal

pub proof_text-requires-clause-named : goal.proof_text-requires-clause-named
proof_text-requires-clause-named c =
    let p = c.args.problem.now in
    let bs = c.args.blocks.now in
    let ends = subst (EndsBy (unfolded_problem p) bs) c.in-Closed.is c.requires.ended in
    block_named bs p c.in-Closed.block c.in-Closed.total c.in-Closed.refutation c.requires.texts ends.1

pub returns-in_ok-text-in-Closed : goal.returns-in_ok-text-in-Closed
returns-in_ok-text-in-Closed c =
    let p = c.args.problem.now in
    let bs = c.args.blocks.now in
    let ends = subst (EndsBy (unfolded_problem p) bs) c.in-Closed.is c.requires.ended in
    (c.claim_of.ensures, refl, proof_of_block bs p c.in-Closed.block c.in-Closed.total c.in-Closed.refutation c.requires.texts ends.1 ends.0 (taken_declared p c.requires.texts.typed) c.in_ok-text-in-Closed.text c.in_ok-text-in-Closed.ensures)
