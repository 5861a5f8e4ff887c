use Rattle.std.proofs.Common.{◌≡◌}
use Rattle.sat_core.proofs.keeper.turn_first.Given as goal

abbrev pub invariant-loop-i : goal.invariant-loop-i
invariant-loop-i l = l.values ≡ l.fn.values
