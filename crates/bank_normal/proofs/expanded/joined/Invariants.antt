use Rattle.std.proofs.Common.{◌≡◌, ◌++◌, take}
use Rattle.bank_normal.proofs.expanded.joined.Given as goal

abbrev pub invariant-loop-i : goal.invariant-loop-i
invariant-loop-i l = l.all ≡ take l.n l.first ++ take l.i l.second
