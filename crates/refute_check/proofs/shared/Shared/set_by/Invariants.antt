use Rattle.std.proofs.Common.{map, take}
use Rattle.refute_check.specs.Internal.Branches.{Represents}
use Rattle.refute_check.specs.Internal.Shared.{shared_atoms, literal_in}
use Rattle.refute_check.proofs.shared.Shared.set_by.Given as goal

abbrev pub invariant-loop-i : goal.invariant-loop-i
invariant-loop-i l = Represents (shared_atoms l.self) (map (literal_in l.self) (take l.i l.list)) l.set
