use Rattle.std.proofs.Common.{arith}
use Rattle.head_offers.proofs.MarkLaws.{mark-next}
use Rattle.head_offers.proofs.marks.mark_all.Goals as goal

pub loop-i-preserved : goal.loop-i-preserved
loop-i-preserved c = mark-next c.args.ids.now c.loop-i.i _ c.args.marks.now.items c.loop-i.marks.items c.mark.new.marks.items (omega (arith, c.loop-i-test.true)) c.loop-i.invariant c.mark.ensures
