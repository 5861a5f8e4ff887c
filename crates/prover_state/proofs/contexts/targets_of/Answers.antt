use Rattle.std.proofs.Common.{reverse, sym}
use Rattle.stt_core.specs.SimpleType.{target}
use Rattle.stt_core.specs.View.{the_type}
use Rattle.stt_core.proofs.ListLaws.{map_more}
use Rattle.prover_state.proofs.contexts.targets_of.Goals as goal

pub loop-i-preserved : goal.loop-i-preserved
loop-i-preserved c =
    map_more target (reverse c.args.types.now) c.loop-i.i (the_type c.in-Some.ty.now) c.loop-i.targets.items c.push.new.self.items c.target_of.result (sym c.in-Some.ensures) c.loop-i.invariant c.target_of.ensures c.in_ok-push-in-Some.ensures.items
