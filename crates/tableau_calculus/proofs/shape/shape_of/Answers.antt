use Rattle.std.proofs.Common.{Some, ap, sym, ◌∙◌, arith}
use Rattle.stt_core.specs.View.{the_head}
use Rattle.stt_core.proofs.HeadLaws.{atom_head}
use Rattle.tableau_calculus.specs.declared.shape.Connective.TheVariants.{False, Not, Imp}
use Rattle.tableau_calculus.proofs.ShapeLaws.{other-binders, other-head, other-count, is-0, is-1, is-2}
use Rattle.tableau_calculus.proofs.shape.shape_of.Goals as goal

pub returns-then-len-gt0 : goal.returns-then-len-gt0
returns-then-len-gt0 c =
    let i = c.nf.inside in
    other-binders i.binders (the_head i.head) i.args c.args.nf.now (atom_head i.head) c.nf.view_is (omega (arith, c.len.ensures, c.if-len-gt0.true))

pub returns-else-len-eq0 : goal.returns-else-len-eq0
returns-else-len-eq0 c =
    let i = c.nf.inside in
    other-count i.binders (the_head i.head) i.args c.args.nf.now (atom_head i.head) c.nf.view_is False (sym c.head_connective.ensures ∙ c.in-Some-False.is ∙ ap Some c.in-Some-False.field-0-is) (λ e. absurd (omega (arith, e, c.len-in-Some-False.ensures, c.if-len-eq0.false)))

pub returns-then-len-eq0 : goal.returns-then-len-eq0
returns-then-len-eq0 c =
    let i = c.nf.inside in
    is-0 i.binders (the_head i.head) i.args c.args.nf.now (atom_head i.head) c.nf.view_is (omega (arith, c.len.ensures, c.if-len-gt0.false)) False (sym c.head_connective.ensures ∙ c.in-Some-False.is ∙ ap Some c.in-Some-False.field-0-is) (omega (arith, c.len-in-Some-False.ensures, c.if-len-eq0.true))

pub returns-then-len-eq1 : goal.returns-then-len-eq1
returns-then-len-eq1 c =
    let i = c.nf.inside in
    is-1 i.binders (the_head i.head) i.args c.args.nf.now (atom_head i.head) c.nf.view_is (omega (arith, c.len.ensures, c.if-len-gt0.false)) Not (sym c.head_connective.ensures ∙ c.in-Some-Not.is ∙ ap Some c.in-Some-Not.field-0-is) c.at.result.now (omega (arith, c.len-in-Some-Not.ensures, c.if-len-eq1.true)) c.at.ensures

pub returns-else-len-eq1 : goal.returns-else-len-eq1
returns-else-len-eq1 c =
    let i = c.nf.inside in
    other-count i.binders (the_head i.head) i.args c.args.nf.now (atom_head i.head) c.nf.view_is Not (sym c.head_connective.ensures ∙ c.in-Some-Not.is ∙ ap Some c.in-Some-Not.field-0-is) (λ e. absurd (omega (arith, e, c.len-in-Some-Not.ensures, c.if-len-eq1.false)))

pub returns-then-len-eq2 : goal.returns-then-len-eq2
returns-then-len-eq2 c =
    let i = c.nf.inside in
    is-2 i.binders (the_head i.head) i.args c.args.nf.now (atom_head i.head) c.nf.view_is (omega (arith, c.len.ensures, c.if-len-gt0.false)) Imp (sym c.head_connective.ensures ∙ c.in-Some-Imp.is ∙ ap Some c.in-Some-Imp.field-0-is) c.at-then-len-eq2.result.now c.at-then-len-eq2-2.result.now (omega (arith, c.len-in-Some-Imp.ensures, c.if-len-eq2.true)) c.at-then-len-eq2.ensures c.at-then-len-eq2-2.ensures

pub returns-else-len-eq2 : goal.returns-else-len-eq2
returns-else-len-eq2 c =
    let i = c.nf.inside in
    other-count i.binders (the_head i.head) i.args c.args.nf.now (atom_head i.head) c.nf.view_is Imp (sym c.head_connective.ensures ∙ c.in-Some-Imp.is ∙ ap Some c.in-Some-Imp.field-0-is) (λ e. absurd (omega (arith, e, c.len-in-Some-Imp.ensures, c.if-len-eq2.false)))

pub returns-in-None : goal.returns-in-None
returns-in-None c =
    let i = c.nf.inside in
    other-head i.binders (the_head i.head) i.args c.args.nf.now (atom_head i.head) c.nf.view_is (sym c.head_connective.ensures ∙ c.in-None.is)
