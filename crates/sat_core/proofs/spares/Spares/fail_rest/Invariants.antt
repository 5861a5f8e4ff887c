use Rattle.std.proofs.Common.{length}
use Rattle.std.specs.List.{Contains}
use Rattle.sat_base.specs.declared.literal.Var.{Var}
use Rattle.sat_core.specs.Internal.Spares.{held}
use Rattle.sat_core.proofs.spares.Spares.fail_rest.Given as goal

abbrev pub invariant-loop-needing : goal.invariant-loop-needing
invariant-loop-needing l = record {
  held_on : (v : Var) → Contains (held l.fn.self.judged.items l.fn.self.visits.items) v → Contains (held l.self.judged.items l.self.visits.items) v;
}

abbrev pub decreases-loop-needing : goal.decreases-loop-needing
decreases-loop-needing l = length l.self.visits.items
