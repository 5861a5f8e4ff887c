use Rattle.std.proofs.Common.{sym}
use Rattle.stt_core.specs.View.{the_type}
use Rattle.stt_core.proofs.ListLaws.{take_both}
use Rattle.stt_core.proofs.TypeLaws.{same_type-true}
use Rattle.prover_state.proofs.contexts.are_same.Goals as goal

pub loop-i-preserved : goal.loop-i-preserved
loop-i-preserved c =
    take_both c.args.a.now c.args.b.now c.loop-i.i (the_type c.at.result.now) (the_type c.at-in-loop-i.result.now) c.loop-i.invariant c.at.ensures c.at-in-loop-i.ensures (same_type-true (the_type c.at.result.now) (the_type c.at-in-loop-i.result.now) (sym c.if-not-same.ensures))
