use Rattle.std.proofs.Common.{arith}
use Rattle.stt_core.specs.View.{the_head, the_type}
use Rattle.stt_core.proofs.HeadLaws.{atom_head}
use Rattle.stt_tableau.proofs.SpineShapes.{not_quantified-binders, not_quantified-count, not_quantified-head, is_quantified}
use Rattle.stt_tableau.proofs.quantifier.quantified_of.Goals as goal

pub returns-then-len-gt0 : goal.returns-then-len-gt0
returns-then-len-gt0 c =
    let i = c.nf.inside in
    not_quantified-binders i.binders (the_head i.head) i.args c.args.nf.now (atom_head i.head) c.nf.view_is (omega (arith, c.len.ensures, c.if-len-gt0.true))

pub returns-then-len-ne1 : goal.returns-then-len-ne1
returns-then-len-ne1 c =
    let i = c.nf.inside in
    not_quantified-count i.binders (the_head i.head) i.args c.args.nf.now (atom_head i.head) c.nf.view_is (λ e. absurd (omega (arith, e, c.len-2.ensures, c.if-len-ne1.true)))

pub returns-in-Some : goal.returns-in-Some
returns-in-Some c =
    let i = c.nf.inside in
    is_quantified i.binders (the_head i.head) i.args c.args.nf.now (atom_head i.head) c.nf.view_is (omega (arith, c.len.ensures, c.if-len-gt0.false)) (the_type c.in-Some.ty.now) c.at.result.now c.in-Some.ensures (omega (arith, c.len-2.ensures, c.if-len-ne1.false)) c.at.ensures

pub returns-in-None : goal.returns-in-None
returns-in-None c =
    let i = c.nf.inside in
    not_quantified-head i.binders (the_head i.head) i.args c.args.nf.now (atom_head i.head) c.nf.view_is c.in-None.ensures
