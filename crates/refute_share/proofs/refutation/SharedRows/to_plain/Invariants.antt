use Rattle.std.proofs.Common.{◌≡◌, take}
use Rattle.refute_share.proofs.refutation.SharedRows.to_plain.Given as goal

abbrev pub invariant-loop-i : goal.invariant-loop-i
invariant-loop-i l = l.rows ≡ take l.i l.self
