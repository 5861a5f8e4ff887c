use Rattle.std.proofs.Common.{◌≡◌, ◌++◌, take}
use Rattle.stt_tableau.proofs.children.joined.Given as goal

abbrev pub invariant-loop-i : goal.invariant-loop-i
invariant-loop-i l = l.lits ≡ l.front ++ take l.i l.back
