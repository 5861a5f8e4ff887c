use Rattle.std.proofs.Common.{◌++◌, ◌-◌, length, replicate, ap, sym, ◌∙◌}
use Rattle.search_spec.specs.Clauses.{instance_clauses, with_clauses}
use Rattle.search_spec.specs.Numbered.{numbers}
use Rattle.tableau_clauses.specs.declared.origin.Origin.TheVariants.{Instance as From}
use Rattle.tableau_clauses.specs.Table.{clauses_in, the_clauses, the_origins, the_instances}
use Rattle.tableau_clauses.proofs.StepLaws.{clauses-with_steps, origins-added}
use Rattle.tableau_clauses.proofs.OrderLaws.{instance_in_order}
use Rattle.tableau_clauses.proofs.table.StepTable.add.Goals as goal

pub invariant_of-self : goal.invariant_of-self
invariant_of-self c =
    instance_in_order (c.self.inside.steps, c.self.inside.instances) (c.add_unless_refused.new.steps, c.add_unless_refused.new.instances) c.args.instance c.in_ok-clauses.clauses.items c.self.invariant c.in_ok-clauses.ensures c.in-Ok.ensures.steps c.in-Ok.ensures.instances

pub returns-in-Ok-clause-clauses : goal.returns-in-Ok-clause-clauses
returns-in-Ok-clause-clauses c =
    ap clauses_in c.in-Ok.ensures.steps
    ∙ clauses-with_steps (From (length c.self.inside.instances)) c.self.inside.steps c.in_ok-clauses.clauses.items
    ∙ ap (with_clauses numbers (clauses_in c.self.inside.steps)) c.in_ok-clauses.ensures
    ∙ ap (λ t. with_clauses numbers (the_clauses t) (instance_clauses numbers c.args.instance.principals c.args.instance.alternatives)) c.self.view_is

pub returns-in-Ok-clause-origins : goal.returns-in-Ok-clause-origins
returns-in-Ok-clause-origins c =
    origins-added (From (length c.self.inside.instances)) c.self.inside.steps c.add_unless_refused.new.steps c.len-start.result c.len.result c.in-Ok.ensures.adds (c.len-start.ensures ∙ ap (λ t. length (the_clauses t)) (sym c.self.view_is)) c.len.ensures
    ∙ ap (λ t. the_origins t ++ replicate (c.len.result - c.len-start.result) (From (length (the_instances t)))) c.self.view_is
