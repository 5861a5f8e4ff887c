use Rattle.std.proofs.Common.{map, ap, ◌∙◌}
use Rattle.sat_base.specs.Literal.{negated}
use Rattle.rebuild_spec.proofs.BranchLaws.{branch_as_picked}
use Rattle.rebuild_spec.proofs.law.branches_are_picked.Goals as goal

pub returns : goal.returns
returns c = λ n clause picked i is. ap (map negated) is ∙ branch_as_picked i.principals picked
