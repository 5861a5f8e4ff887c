use Rattle.std.proofs.Common.{◌≡◌, ◌+◌, ◌-◌, ◌^◌, min, length, take}
use Rattle.stt_core.specs.Lambda.{node_count}
use Rattle.stt_core.specs.Internal.Sizes.{node_counts}
use Rattle.stt_core.proofs.measure.+size_sat.Given as goal

abbrev pub decreases-size_sat : goal.decreases-size_sat
decreases-size_sat l = node_count l.nf.now

abbrev pub invariant-loop-i : goal.invariant-loop-i
invariant-loop-i l = l.size ≡ min (length l.nf-inside.binders + 1 + node_counts (take l.i l.nf-inside.args)) (2 ^ 64 - 1)
