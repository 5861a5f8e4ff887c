use Rattle.std.proofs.Common.{◌≡◌, take}
use Rattle.tableau_rebuild.proofs.packed_branch.PackedBranch.of.Given as goal

abbrev pub invariant-loop-literal : goal.invariant-loop-literal
invariant-loop-literal l = l.packed.items ≡ take l.literal-index l.literals
