use Rattle.std.proofs.Common.{◌+◌, ◌*◌}
use Rattle.finite_models.specs.Internal.Worth.{height}
use Rattle.finite_models.proofs.binder.+lacks.Given as goal

abbrev pub decreases-lacks : goal.decreases-lacks
decreases-lacks l = 2 * height l.expr.now

abbrev pub decreases-lacks_under : goal.decreases-lacks_under
decreases-lacks_under l = 2 * height l.body.now + 1
