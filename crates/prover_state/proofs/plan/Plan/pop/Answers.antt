use Rattle.prover_state.proofs.PlanLaws.{spaced-taken}
use Rattle.prover_state.proofs.plan.Plan.pop.Goals as goal

pub invariant_of-self-2 : goal.invariant_of-self-2
invariant_of-self-2 g c = spaced-taken c.self.inside.agenda c.pop_entry.new.self c.self.invariant c.in_ok-entry.entry c.in_ok-entry.ensures.first
