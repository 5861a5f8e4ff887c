use Rattle.std.proofs.Common.{◌≡◌, take}
use Rattle.stt_core.specs.Lambda.{applied, node_count}
use Rattle.stt_core.specs.Internal.Missing.{missing_binders}
use Rattle.stt_core.specs.View.{the_head}
use Rattle.stt_core.proofs.measure.+missing_around.Given as goal

abbrev pub decreases-missing_around : goal.decreases-missing_around
decreases-missing_around l = node_count l.nf.now

abbrev pub invariant-loop-i : goal.invariant-loop-i
invariant-loop-i l = l.missing ≡ missing_binders (applied (the_head l.nf-inside.head) (take l.i l.nf-inside.args))
