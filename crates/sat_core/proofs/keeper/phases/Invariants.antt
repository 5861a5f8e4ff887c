use Rattle.std.proofs.Common.{◌≡◌, take}
use Rattle.sat_core.proofs.keeper.phases.Given as goal

abbrev pub invariant-loop-v : goal.invariant-loop-v
invariant-loop-v l = l.values.items ≡ take l.v l.trail.phases
