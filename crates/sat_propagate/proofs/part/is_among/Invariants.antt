use Rattle.std.proofs.Common.{◌≡◌, false, take}
use Rattle.sat_base.specs.Literal.{holds}
use Rattle.sat_propagate.proofs.part.is_among.Given as goal

abbrev pub invariant-loop-other : goal.invariant-loop-other
invariant-loop-other l = holds (take l.other-index l.clause) l.fn.literal ≡ false
