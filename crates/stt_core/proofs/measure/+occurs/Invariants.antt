use Rattle.std.proofs.Common.{take}
use Rattle.stt_core.specs.Lambda.{name, applied, node_count}
use Rattle.stt_core.specs.Occurrence.{Occurs}
use Rattle.stt_core.specs.View.{the_head}
use Rattle.stt_core.proofs.measure.+occurs.Given as goal

abbrev pub decreases-occurs : goal.decreases-occurs
decreases-occurs l = node_count l.nf.now

abbrev pub invariant-loop-i : goal.invariant-loop-i
invariant-loop-i l = Occurs (name l.place) (applied (the_head l.nf-inside.head) (take l.i l.nf-inside.args)) → ⊥
