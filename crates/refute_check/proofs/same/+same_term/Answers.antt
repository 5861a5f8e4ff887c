use Rattle.std.proofs.Common.{arith}
use Rattle.stt_core.proofs.ListLaws.{take_both}
use Rattle.refute_check.proofs.TermLaws.{node_count-at}
use Rattle.refute_check.proofs.same.+same_term.Goals as goal

pub same_terms-same_term-requires : goal.same_terms-same_term-requires
same_terms-same_term-requires t c =
    let smaller = node_count-at c.args.left.now c.loop-i.i c.at.result.now c.at.ensures in
    (omega (arith, c.decreases, smaller), tt)

pub same_terms-loop-i-preserved : goal.same_terms-loop-i-preserved
same_terms-loop-i-preserved t c =
    take_both c.args.left.now c.args.right.now c.loop-i.i c.at.result.now c.at-in-loop-i.result.now c.loop-i.invariant c.at.ensures c.at-in-loop-i.ensures (c.same_term.ensures c.if-not-same_term.false)
