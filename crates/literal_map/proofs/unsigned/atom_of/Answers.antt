use Rattle.std.proofs.Common.{subst, ◌∙◌, arith}
use Rattle.term_bank.specs.Terms.{term_at}
use Rattle.term_bank.specs.NodeView.{the_shape}
use Rattle.literal_map.specs.Internal.Denied.{IsDenied}
use Rattle.literal_map.proofs.SignLaws.{unsigned_node}
use Rattle.literal_map.proofs.PeelLaws.{sign-peeled, below-peeled, sign-plain}
use Rattle.literal_map.proofs.unsigned.atom_of.Goals as goal

pub loop-inner-preserved : goal.loop-inner-preserved
loop-inner-preserved c =
    let ts = c.args.bank.now.terms in
    let denied = subst (IsDenied (the_shape c.node.result.now)) c.in-Some.is c.negated.ensures in
    let below = below-peeled c.loop-inner.atom c.in-Some.inner (the_shape c.node.result.now) c.node.ensures.below denied in
    record {
      within = omega (arith, below, c.loop-inner.invariant.within);
      literal =
          sign-peeled ts c.loop-inner.positive (term_at ts c.loop-inner.atom) (the_shape c.node.result.now) c.in-Some.inner c.node.ensures.term denied
          ∙ c.loop-inner.invariant.literal;
    }

pub loop-inner-smaller : goal.loop-inner-smaller
loop-inner-smaller c =
    let shape = the_shape c.node.result.now in
    below-peeled c.loop-inner.atom c.in-Some.inner shape c.node.ensures.below (subst (IsDenied shape) c.in-Some.is c.negated.ensures)

pub returns-clause-literal : goal.returns-clause-literal
returns-clause-literal c =
    let ts = c.args.bank.now.terms in
    let t = term_at ts c.loop-inner.atom in
    sign-plain c.loop-inner.positive t (unsigned_node ts t c.node.result.now c.node.ensures.term (subst (IsDenied (the_shape c.node.result.now)) c.in_default.is c.negated.ensures))
    ∙ c.loop-inner.invariant.literal

pub returns-clause-unsigned : goal.returns-clause-unsigned
returns-clause-unsigned c =
    let ts = c.args.bank.now.terms in
    unsigned_node ts (term_at ts c.loop-inner.atom) c.node.result.now c.node.ensures.term (subst (IsDenied (the_shape c.node.result.now)) c.in_default.is c.negated.ensures)
