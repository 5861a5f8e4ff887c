use Rattle.std.proofs.Common.{arith}
use Rattle.stt_core.specs.View.{the_head, the_type}
use Rattle.stt_core.proofs.HeadLaws.{atom_head}
use Rattle.stt_tableau.proofs.SpineShapes.{no_equation-binders, no_equation-count, no_equation-head, is_equation}
use Rattle.stt_tableau.proofs.equation.equation_of.Goals as goal

pub returns-then-len-gt0 : goal.returns-then-len-gt0
returns-then-len-gt0 c =
    let i = c.nf.inside in
    no_equation-binders i.binders (the_head i.head) i.args c.args.nf.now (atom_head i.head) c.nf.view_is (omega (arith, c.len.ensures, c.if-len-gt0.true))

pub returns-then-len-ne2 : goal.returns-then-len-ne2
returns-then-len-ne2 c =
    let i = c.nf.inside in
    no_equation-count i.binders (the_head i.head) i.args c.args.nf.now (atom_head i.head) c.nf.view_is (λ e. absurd (omega (arith, e, c.len-2.ensures, c.if-len-ne2.true)))

pub returns-in-Some : goal.returns-in-Some
returns-in-Some c =
    let i = c.nf.inside in
    is_equation i.binders (the_head i.head) i.args c.args.nf.now (atom_head i.head) c.nf.view_is (omega (arith, c.len.ensures, c.if-len-gt0.false)) (the_type c.in-Some.ty.now) c.at.result.now c.at-in-Some.result.now c.in-Some.ensures (omega (arith, c.len-2.ensures, c.if-len-ne2.false)) c.at.ensures c.at-in-Some.ensures

pub returns-in-None : goal.returns-in-None
returns-in-None c =
    let i = c.nf.inside in
    no_equation-head i.binders (the_head i.head) i.args c.args.nf.now (atom_head i.head) c.nf.view_is c.in-None.ensures
