use Rattle.std.proofs.Common.{◌≡◌, ◌++◌, drop}
use Rattle.stt_normal.proofs.part.append.Given as goal

abbrev pub invariant-loop-i : goal.invariant-loop-i
invariant-loop-i l = l.types ++ drop l.i l.other ≡ l.initial.types ++ drop l.start l.other
