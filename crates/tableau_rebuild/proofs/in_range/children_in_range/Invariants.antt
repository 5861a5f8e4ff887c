use Rattle.std.proofs.Common.{take}
use Rattle.std.specs.List.{AllByRecursion}
use Rattle.refute_print.specs.Limits.{IsChild}
use Rattle.tableau_rebuild.proofs.in_range.children_in_range.Given as goal

abbrev pub invariant-loop-i : goal.invariant-loop-i
invariant-loop-i l = AllByRecursion IsChild (take l.i l.children)
