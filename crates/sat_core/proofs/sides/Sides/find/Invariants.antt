use Rattle.std.proofs.Common.{◌≡◌, ◌<◌, ◌≤◌, ℕ, [], Some, length}
use Rattle.std.specs.List.{slice_get}
use Rattle.sat_base.specs.declared.literal.Var.{Var}
use Rattle.sat_core.specs.Internal.Sides.{IsPaired}
use Rattle.sat_core.proofs.sides.Sides.find.Given as goal

abbrev pub invariant-loop-var : goal.invariant-loop-var
invariant-loop-var l = record {
  none_yet : (k : ℕ) (v : Var) → k < l.var-index → slice_get l.var-items k ≡ Some v → ¬ IsPaired l.propagator l.names l.marks v;
  found : l.self.found.items ≡ [];
  made : length l.propagator.trail.phases ≤ length l.self.noted.items;
}
