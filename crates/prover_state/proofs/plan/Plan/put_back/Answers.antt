use Rattle.std.proofs.Common.{sym, subst}
use Rattle.command_queue.specs.declared.entry.Entry.{Entry}
use Rattle.command_queue.specs.Queue.{Queue}
use Rattle.tableau_calculus.specs.Each.{Each}
use Rattle.prover_state.specs.declared.command.Planned.{Planned}
use Rattle.prover_state.specs.declared.command.Delays.{Delays}
use Rattle.prover_state.specs.Internal.Pending.{EndsBelow, IsApart}
use Rattle.prover_state.proofs.PlanLaws.{spaced-put_back}
use Rattle.prover_state.proofs.plan.Plan.put_back.Goals as goal

pub invariant_of-self-2 : goal.invariant_of-self-2
invariant_of-self-2 g c =
    let old = c.self.inside.agenda in
    let E : Planned → Entry Planned = λ p. record { due = c.args.entry.due; number = c.args.entry.number; command = p } in
    let A : Queue Planned Delays → Type 0 = λ q. Each (IsApart c.args.entry) q.entries in
    let B : Queue Planned Delays → Type 0 = λ q. EndsBelow q.pushes c.args.entry in
    let apart = subst (λ p. Each (IsApart (E p)) old.entries) (sym c.in_ok-waiting.ensures) (subst A (sym c.self.view_is) c.requires.apart) in
    let below = subst (λ p. EndsBelow old.pushes (E p)) (sym c.in_ok-waiting.ensures) (subst B (sym c.self.view_is) c.requires.taken) in
    spaced-put_back old c.push_at.new.self c.self.invariant (E c.in_ok-waiting.waiting) apart below c.in_ok-push_at.ensures.ok
