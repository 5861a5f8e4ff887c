use Rattle.std.proofs.Common.{ap, ◌∙◌}
use Rattle.stt_core.specs.PlainProblem.{PlainProblem}
use Rattle.delta_defs.specs.Unfolding.{unfolded_problem}
use Rattle.prover_search.proofs.PreparedLaws.{prepared-grown}
use Rattle.prover_search.proofs.prepared.Prepared.new.Goals as goal

pub returns-in-Ok : goal.returns-in-Ok
returns-in-Ok c =
    let made = c.in_ok-basis.ensures in
    let e = c.in-Ok.ensures in
    prepared-grown (unfolded_problem c.args.problem.now) c.in_ok-basis.basis c.number_start.new.basis c.in-Ok.start.items e.grows e.good
    (made.bases ∙ ap (λ (p : PlainProblem). p.declared.bases) c.problem.view_is) (made.consts ∙ ap (λ (p : PlainProblem). p.declared.consts) c.problem.view_is) made.unwitnessed e.numbers
