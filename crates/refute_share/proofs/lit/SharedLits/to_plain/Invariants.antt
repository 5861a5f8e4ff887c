use Rattle.std.proofs.Common.{◌≡◌, take}
use Rattle.refute_share.proofs.lit.SharedLits.to_plain.Given as goal

abbrev pub invariant-loop-i : goal.invariant-loop-i
invariant-loop-i l = l.lits ≡ take l.i l.self
