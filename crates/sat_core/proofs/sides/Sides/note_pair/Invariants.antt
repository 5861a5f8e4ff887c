use Rattle.std.proofs.Common.{◌≡◌, IsTrue, length}
use Rattle.sat_base.specs.declared.literal.Var.{Var}
use Rattle.sat_core.specs.Internal.Marks.{is_marked}
use Rattle.sat_core.proofs.sides.Sides.note_pair.Given as goal

abbrev pub invariant-loop-literal : goal.invariant-loop-literal
invariant-loop-literal l = record {
  kept : (v : Var) → IsTrue (is_marked l.fn.self.noted.items v) → IsTrue (is_marked l.self.noted.items v);
  made : length l.self.noted.items ≡ length l.fn.self.noted.items;
}
