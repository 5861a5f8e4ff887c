use Rattle.std.proofs.Common.{◌≡◌, ◌≤◌, ◌+◌, ◌||◌, length, take, drop}
use Rattle.sat_base.specs.declared.literal.Var.{Var}
use Rattle.sat_base.specs.Literal.{mentions_variable}
use Rattle.sat_laws.specs.Internal.Analysis.{how_many}
use Rattle.sat_propagate.specs.Internal.Trail.{literals}
use Rattle.sat_core.specs.Internal.Marks.{is_marked, marks_literal, others}
use Rattle.sat_core.proofs.analysis.mark_others.Given as goal

abbrev pub invariant-loop-packed : goal.invariant-loop-packed
invariant-loop-packed l = record {
  marks : (v : Var) → is_marked l.marks.marked v ≡ (is_marked l.fn.marks.marked v || mentions_variable (others l.own (take l.packed-index l.among)) v);
  made : length l.marks.marked ≡ length l.fn.marks.marked;
  counted : l.late + how_many (marks_literal l.fn.marks.marked) (drop l.start (literals l.trail.steps)) ≡ how_many (marks_literal l.marks.marked) (drop l.start (literals l.trail.steps));
  few : l.late ≤ l.packed-index;
}
