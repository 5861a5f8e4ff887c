use Rattle.std.proofs.Common.{reverse}
use Rattle.tableau_rebuild.specs.Internal.Drafts.{trees}
use Rattle.tableau_rebuild.specs.Internal.Walks.{IsWalkUnderWay, weight}
use Rattle.tableau_rebuild.proofs.walk.walk_from.Given as goal

abbrev pub invariant-loop-task : goal.invariant-loop-task
invariant-loop-task l = IsWalkUnderWay l.drafts l.last l.listed.items l.order.items (reverse l.tasks.items)

abbrev pub decreases-loop-task : goal.decreases-loop-task
decreases-loop-task l = weight (trees l.drafts) (reverse l.tasks.items)
