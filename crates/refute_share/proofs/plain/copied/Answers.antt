use Rattle.std.proofs.Common.{◌∙◌, refl, take_all, arith}
use Rattle.stt_core.proofs.ListLaws.{copy_more}
use Rattle.refute_share.proofs.plain.copied.Goals as goal

pub loop-i-preserved : goal.loop-i-preserved
loop-i-preserved c =
    copy_more c.args.children.now c.loop-i.i c.at.result c.loop-i.copy c.push.new.self c.at.result c.at.ensures c.loop-i.invariant refl c.in_ok-push.ensures.ok

pub returns : goal.returns
returns c = c.loop-i.invariant ∙ take_all c.loop-i.i c.args.children.now (omega (arith, c.len-i-end.ensures))
