use Rattle.std.proofs.Common.{◌<◌, ap, subst, arith}
use Rattle.term_bank.specs.Terms.{IsBelow}
use Rattle.term_bank.specs.NodeView.{the_shape}
use Rattle.bank_normal.proofs.expanded.within_binders.Goals as goal

pub loop-preserved : goal.loop-preserved
loop-preserved c =
    let below : c.in-Lam.body < c.loop.inner = subst (IsBelow c.loop.inner) (ap the_shape c.in-Lam.is) c.node.ensures.below in
    omega (arith, below, c.loop.invariant)
