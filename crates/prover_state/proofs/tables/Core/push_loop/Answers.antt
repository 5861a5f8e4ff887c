use Rattle.std.proofs.Common.{◌≡◌, ◌+◌, ℕ, suc, subst, ◌∙◌}
use Rattle.command_queue.specs.Queue.{AddsEntry}
use Rattle.prover_state.specs.Delays.{delay_by}
use Rattle.prover_state.specs.Internal.Pending.{span}
use Rattle.prover_state.proofs.PushLaws.{pushed-loop, right-pushed}
use Rattle.prover_state.proofs.tables.Core.push_loop.Goals as goal

pub returns-clause-state : goal.returns-clause-state
returns-clause-state g c =
    let self = c.args.self.now in
    let p = c.args.planned in
    let A : ℕ → Type 0 = λ n. AddsEntry self.plan c.push.new.self (suc (span p)) (n + delay_by self.plan.rule.mode p.first) p in
    let now : c.from.result ≡ self.tables.moment + c.args.extra = c.from.ensures ∙ c.in_ok-now.ensures in
    pushed-loop self.tables self.plan c.push.new.self p c.requires.entry c.args.extra c.requires.even (subst A now c.in_ok-push.ensures.ok)

pub returns-clause-stays : goal.returns-clause-stays
returns-clause-stays g c =
    let self = c.args.self.now in
    let p = c.args.planned in
    let A : ℕ → Type 0 = λ n. AddsEntry self.plan c.push.new.self (suc (span p)) (n + delay_by self.plan.rule.mode p.first) p in
    let now : c.from.result ≡ self.tables.moment + c.args.extra = c.from.ensures ∙ c.in_ok-now.ensures in
    record {
      right = right-pushed self.tables self.plan c.push.new.self p c.requires.entry c.args.extra c.requires.even (subst A now c.in_ok-push.ensures.ok) c.requires.right;
      rule = c.in_ok-push.ensures.ok.rule;
    }
