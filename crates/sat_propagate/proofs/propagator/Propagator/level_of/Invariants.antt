use Rattle.std.proofs.Common.{◌<◌, ◌≤◌, length, get_or}
use Rattle.sat_propagate.proofs.propagator.Propagator.level_of.Given as goal

-- the start of the level that was passed last is after the place
abbrev pub invariant-loop-level : goal.invariant-loop-level
invariant-loop-level l = record {
  within : l.level ≤ length l.self.trail.starts;
  later : l.level < length l.self.trail.starts → l.place < get_or l.self.trail.starts l.level 0;
}

abbrev pub decreases-loop-level : goal.decreases-loop-level
decreases-loop-level l = l.level
