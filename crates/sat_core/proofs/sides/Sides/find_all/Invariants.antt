use Rattle.std.proofs.Common.{◌≡◌, ◌<◌, ℕ, Some, IsTrue, length}
use Rattle.std.specs.List.{slice_get}
use Rattle.sat_base.specs.declared.literal.Var.{Var}
use Rattle.sat_core.specs.Internal.Marks.{is_marked}
use Rattle.sat_core.specs.Internal.Sides.{AreNoted}
use Rattle.sat_core.proofs.sides.Sides.find_all.Given as goal

abbrev pub invariant-loop-var : goal.invariant-loop-var
invariant-loop-var l = record {
  so_far : (k : ℕ) (v : Var) → k < l.var-index → slice_get l.var-items k ≡ Some v → v.0 < length l.fn.self.noted.items → IsTrue (is_marked l.self.noted.items v);
  made : length l.self.noted.items ≡ length l.fn.self.noted.items;
}

abbrev pub invariant-loop-var-2 : goal.invariant-loop-var-2
invariant-loop-var-2 l = record {
  noted : AreNoted (length l.fn.self.noted.items) l.marks l.self.noted.items;
  made : length l.self.noted.items ≡ length l.fn.self.noted.items;
}
