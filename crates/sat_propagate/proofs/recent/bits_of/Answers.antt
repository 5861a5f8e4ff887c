use Rattle.std.proofs.Common.{arith}
use Rattle.sat_propagate.proofs.RecentLaws.{signature_on}
use Rattle.sat_propagate.proofs.recent.bits_of.Goals as goal

pub loop-literal-preserved : goal.loop-literal-preserved
loop-literal-preserved c =
    signature_on c.args.literals.now c.loop-literal.literal-index c.loop-literal.bits c.number.result c.literal-item.result c.literal-item.result (omega arith) c.literal-item.is
    c.number.ensures c.loop-literal.invariant
