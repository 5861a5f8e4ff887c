use Rattle.std.proofs.Common.{ap, ◌∙◌, map, take_all, arith}
use Rattle.stt_core.proofs.ListLaws.{map_more}
use Rattle.stt_core.specs.Lift.{lift}
use Rattle.stt_normal.proofs.eta.lift_all.Goals as goal

pub loop-i-preserved : goal.loop-i-preserved
loop-i-preserved c =
    map_more (lift 0) c.args.nfs.now c.loop-i.i c.at.result.now c.loop-i.all c.push.new.self c.in_ok-nf.nf c.at.ensures c.loop-i.invariant c.in_ok-nf.ensures c.in_ok-push.ensures.ok

pub returns : goal.returns
returns c = c.loop-i.invariant ∙ ap (map (lift 0)) (take_all c.loop-i.i c.args.nfs.now (omega (arith, c.len-i-end.ensures)))
