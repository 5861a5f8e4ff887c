use Rattle.std.proofs.Common.{suc, sym, ap, ◌∙◌}
use Rattle.prover_state.specs.Internal.Pending.{span}
use Rattle.prover_state.proofs.PlanLaws.{spaced-pushed}
use Rattle.prover_state.proofs.plan.Plan.push.Goals as goal

pub invariant_of-self-2 : goal.invariant_of-self-2
invariant_of-self-2 g c =
    spaced-pushed c.self.inside.agenda c.push_first.new.self c.self.invariant c.in_ok-numbers.numbers _ c.in_ok-waiting.waiting
    (c.in_ok-numbers.ensures.number ∙ ap suc (c.len.ensures ∙ ap span (sym c.in_ok-waiting.ensures))) c.in_ok-push_first.ensures.ok
