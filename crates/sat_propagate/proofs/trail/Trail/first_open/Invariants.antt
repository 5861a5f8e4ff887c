use Rattle.std.proofs.Common.{◌≢◌, ◌<◌, false}
use Rattle.sat_base.specs.declared.literal.Var.{Var}
use Rattle.sat_base.specs.Literal.{mentions_variable}
use Rattle.sat_propagate.specs.Internal.Trail.{literals}
use Rattle.sat_propagate.proofs.trail.Trail.first_open.Given as goal

abbrev pub invariant-loop-v : goal.invariant-loop-v
invariant-loop-v l = (w : Var) → w.0 < l.v → mentions_variable (literals l.self.steps) w ≢ false
