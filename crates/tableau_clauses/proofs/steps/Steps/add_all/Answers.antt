use Rattle.std.proofs.Common.{sym, ap, ◌∙◌}
use Rattle.tableau_clauses.specs.Internal.Stepping.{with_steps}
use Rattle.tableau_clauses.proofs.StepLaws.{step_later}
use Rattle.tableau_clauses.proofs.steps.Steps.add_all.Goals as goal

pub loop-clause-preserved : goal.loop-clause-preserved
loop-clause-preserved c = record {
  steps =
      ap (λ s. with_steps c.args.origin s c.next.new.self.rest.items) c.in_ok-add.ensures.ok
      ∙ ap (with_steps c.args.origin c.loop-clause.self) (sym c.in-Some.ensures.steps.0)
      ∙ c.loop-clause.invariant.steps;
  adds = step_later c.args.origin c.args.self.now c.loop-clause.self c.add.new.self c.in-Some.clause c.loop-clause.invariant.adds c.in_ok-add.ensures.ok;
}
