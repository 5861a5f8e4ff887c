use Rattle.std.proofs.Common.{◌∙◌, take_all, arith}
use Rattle.stt_core.specs.View.{the_type}
use Rattle.stt_core.proofs.ListLaws.{copy_more}
use Rattle.stt_core.proofs.ty.Types.try_clone.Goals as goal

pub loop-i-preserved : goal.loop-i-preserved
loop-i-preserved c =
    copy_more c.args.self.now c.loop-i.i (the_type c.at.result.now) c.loop-i.types c.push.new.self (the_type c.in_ok-ty.ty) c.at.ensures c.loop-i.invariant c.in_ok-ty.ensures c.in_ok-push.ensures.ok

pub returns : goal.returns
returns c = c.loop-i.invariant ∙ take_all c.loop-i.i c.args.self.now (omega (arith, c.len-i-end.ensures))
