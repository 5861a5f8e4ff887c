use Rattle.std.proofs.Common.{◌∙◌, take_all, arith}
use Rattle.stt_core.proofs.ListLaws.{copy_more}
use Rattle.refute_share.proofs.lit.SharedLits.to_plain.Goals as goal

pub loop-i-preserved : goal.loop-i-preserved
loop-i-preserved c =
    copy_more c.args.self.now c.loop-i.i c.at.result.now c.loop-i.lits c.push.new.self c.in_ok-to_plain.field-0 c.at.ensures c.loop-i.invariant c.in_ok-to_plain.ensures c.in_ok-push.ensures.ok

pub returns : goal.returns
returns c = c.loop-i.invariant ∙ take_all c.loop-i.i c.args.self.now (omega (arith, c.len-i-end.ensures))
