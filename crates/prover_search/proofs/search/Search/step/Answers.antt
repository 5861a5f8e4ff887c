use Rattle.std.proofs.Common.{ap, ◌∙◌}
use Rattle.prover_state.specs.declared.command.Delays.{Delays}
use Rattle.prover_search.proofs.search.Search.step.Goals as goal

pub advance-requires-clause-running : goal.advance-requires-clause-running
advance-requires-clause-running g c = (c.requires.under_way c.if-self.false).running

pub advance-requires-clause-mode : goal.advance-requires-clause-mode
advance-requires-clause-mode g c = (c.requires.under_way c.if-self.false).mode

pub returns-clause-under_way : goal.returns-clause-under_way
returns-clause-under_way g c = λ e. record {
  mode = ap (λ (d : Delays). d.mode) c.in_ok-stepped.ensures.rule ∙ (c.requires.under_way c.if-self.false).mode;
  running = c.in_ok-stepped.ensures.running;
}
