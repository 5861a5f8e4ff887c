use Rattle.std.proofs.Common.{◌≡◌, take}
use Rattle.tableau_rebuild.proofs.packed_branch.PackedBranch.unpack_to.Given as goal

abbrev pub invariant-loop-packed : goal.invariant-loop-packed
invariant-loop-packed l = l.literals.items ≡ take l.packed-index l.self
