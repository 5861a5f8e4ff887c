use Rattle.std.proofs.Common.{◌≡◌, map, take}
use Rattle.stt_core.specs.Lift.{lift}
use Rattle.stt_normal.proofs.eta.lift_all.Given as goal

abbrev pub invariant-loop-i : goal.invariant-loop-i
invariant-loop-i l = l.all ≡ map (lift 0) (take l.i l.nfs)
