use Rattle.std.proofs.Common.{◌≡◌, ◌<◌, ℕ, Some, IsTrue}
use Rattle.std.specs.List.{Contains, slice_get}
use Rattle.sat_base.specs.declared.literal.Var.{Var}
use Rattle.sat_core.specs.Internal.Marks.{is_marked}
use Rattle.sat_core.specs.Internal.Spares.{StandsBefore}
use Rattle.sat_core.proofs.spares.Spares.find.Given as goal

abbrev pub invariant-loop-var : goal.invariant-loop-var
invariant-loop-var l = record {
  so_far : (k : ℕ) (v : Var) → k < l.var-index → slice_get l.var-items k ≡ Some v → IsTrue (is_marked l.marks.marked v) → StandsBefore l.propagator.trail l.start v → Contains l.self.judged.items v;
}
