use Rattle.normal_forms.specs.Normal.{apply_each}
use Rattle.normal_forms.proofs.NormalReady.{turn_ready, turn_taken}
use Rattle.stt_normal.proofs.normal.apply_in_turn.Goals as goal

pub apply_nf-requires : goal.apply_nf-requires
apply_nf-requires c =
    turn_ready c.loop-i.f c.at.result.now c.args.args.now c.loop-i.i c.loop-i.invariant.0 c.at.ensures

pub loop-i-preserved : goal.loop-i-preserved
loop-i-preserved c =
    turn_taken c.loop-i.f c.at.result.now c.in_ok-f.f c.args.args.now c.loop-i.i (apply_each c.args.f c.args.args.now) c.loop-i.invariant c.at.ensures c.in_ok-f.ensures
