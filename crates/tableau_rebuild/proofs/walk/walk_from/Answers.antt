use Rattle.tableau_rebuild.proofs.WalkSteps.{walk_begins}
use Rattle.tableau_rebuild.proofs.walk.walk_from.Goals as goal

pub loop-task-init : goal.loop-task-init
loop-task-init c =
    walk_begins c.args.drafts.now c.args.last c.in_ok-listed.listed.items c.new-order.result.items c.new-tasks.result.items c.push.new.self.items c.requires.last c.in_ok-listed.ensures c.new-order.ensures.items c.new-tasks.ensures.items c.in_ok-push.ensures.items
