use Rattle.std.proofs.Common.{◌≡◌, map, take}
use Rattle.stt_core.specs.Lambda.{node_count}
use Rattle.stt_core.specs.Lift.{lift_by}
use Rattle.stt_normal.proofs.lift.+lift_nf.Given as goal

abbrev pub decreases-lift_nf : goal.decreases-lift_nf
decreases-lift_nf l = node_count l.nf.now

abbrev pub invariant-loop-i : goal.invariant-loop-i
invariant-loop-i l = l.args ≡ map (lift_by l.by l.inner) (take l.i l.nf-inside.args)
