use Rattle.std.proofs.Common.{◌∙◌, ap, Some, sym}
use Rattle.stt_core.specs.View.{the_type}
use Rattle.stt_core.proofs.ListLaws.{one_more}
use Rattle.stt_normal.proofs.part.append.Goals as goal

pub loop-i-preserved : goal.loop-i-preserved
loop-i-preserved c =
    one_more c.loop-i.types c.push.new.self c.args.other.now c.loop-i.i (the_type c.in_ok-ty.ty) (c.at.ensures ∙ ap Some (sym c.in_ok-ty.ensures)) c.in_ok-push.ensures.ok ∙ c.loop-i.invariant
