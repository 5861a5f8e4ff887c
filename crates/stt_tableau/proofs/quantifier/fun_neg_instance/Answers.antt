use Rattle.std.proofs.Common.{◌≡◌, false, refl, ap, ap₂, sym, ◌∙◌}
use Rattle.stt_core.specs.SimpleType.{arrow}
use Rattle.stt_core.specs.View.{the_type}
use Rattle.tableau_calculus.specs.Rules.{agreement}
use Rattle.tableau_calculus.proofs.InstanceLaws.{fun_neg_is}
use Rattle.stt_tableau.proofs.InstanceTypes.{functions_at}
use Rattle.stt_tableau.proofs.quantifier.fun_neg_instance.Goals as goal

pub agreement_literal-requires : goal.agreement_literal-requires
agreement_literal-requires c =
    let e = c.in-Some.equation in
    let a = the_type c.deref.result.now in
    let b = the_type c.deref-in-Arrow.result.now in
    let is : the_type e.ty.now ≡ arrow (the_type c.deref.result.now) (the_type c.deref-in-Arrow.result.now) = ap the_type c.in-Arrow.is ∙ ap₂ (λ x y. arrow (the_type x) (the_type y)) (sym c.deref.ensures) (sym c.deref-in-Arrow.ensures) in
    functions_at c.args.branch.now c.args.i false (the_type e.ty.now) (the_type c.deref.result.now) (the_type c.deref-in-Arrow.result.now) e.left.now e.right.now c.requires c.in-Some.ensures is

pub returns-in_ok-one-in-Arrow : goal.returns-in_ok-one-in-Arrow
returns-in_ok-one-in-Arrow c = λ scope rows.
    let e = c.in-Some.equation in
    let is : the_type e.ty.now ≡ arrow (the_type c.deref.result.now) (the_type c.deref-in-Arrow.result.now) = ap the_type c.in-Arrow.is ∙ ap₂ (λ x y. arrow (the_type x) (the_type y)) (sym c.deref.ensures) (sym c.deref-in-Arrow.ensures) in
    fun_neg_is scope rows c.args.branch.now c.args.i (the_type e.ty.now) (the_type c.deref.result.now) (the_type c.deref-in-Arrow.result.now) e.left.now e.right.now (agreement (the_type c.deref.result.now) (the_type c.deref-in-Arrow.result.now) e.left.now e.right.now) c.in_ok-agree-in-Arrow.agree c.opposite.result c.in_ok-one-in-Arrow.field-0 c.in-Some.ensures is refl c.in_ok-agree-in-Arrow.ensures c.opposite.ensures c.in_ok-one-in-Arrow.ensures
