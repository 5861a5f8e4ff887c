use Rattle.std.proofs.Common.{◌≡◌, ◌||◌, None, length, take}
use Rattle.sat_base.specs.declared.literal.Var.{Var}
use Rattle.sat_base.specs.Literal.{mentions_variable}
use Rattle.sat_core.specs.Internal.Marks.{is_marked, others}
use Rattle.sat_core.proofs.analysis.mark_all.Given as goal

abbrev pub invariant-loop-literal : goal.invariant-loop-literal
invariant-loop-literal l = record {
  marks : (v : Var) → is_marked l.marks.marked v ≡ (is_marked l.fn.marks.marked v || mentions_variable (others None (take l.literal-index l.among)) v);
  made : length l.marks.marked ≡ length l.fn.marks.marked;
}
