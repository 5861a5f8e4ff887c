use Rattle.std.proofs.Common.{refl, ◌∷◌, ◌++◌, [], ap, ◌∙◌}
use Rattle.tableau_clauses.specs.declared.origin.Origin.TheVariants.{Start}
use Rattle.tableau_clauses.specs.Internal.Stepping.{with_steps}
use Rattle.tableau_clauses.proofs.OrderLaws.{start_in_order}
use Rattle.tableau_clauses.proofs.table.StepTable.start.Goals as goal

pub invariant_of-self-2 : goal.invariant_of-self-2
invariant_of-self-2 c =
    start_in_order (c.self.inside.steps, c.self.inside.instances) (c.add.new.self, c.self.inside.instances) c.args.lit c.self.invariant
    (c.in_ok-add.ensures.ok ∙ ap (λ clause. with_steps Start c.self.inside.steps (clause ∷ [])) (c.in_ok-push.ensures.ok ∙ ap (λ ls. ls ++ c.args.lit ∷ []) c.new-clause.ensures)) refl
