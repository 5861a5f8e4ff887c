use Rattle.std.proofs.Common.{sym, ◌∙◌}
use Rattle.stt_core.specs.SimpleType.{formula}
use Rattle.stt_core.specs.View.{the_type}
use Rattle.stt_core.proofs.TypeLaws.{same_type-true}
use Rattle.tableau_calculus.proofs.InstanceLaws.{bool_neg_is}
use Rattle.stt_tableau.proofs.equation.bool_neg_instance.Goals as goal

pub returns-in_ok-one_of_both-in-Some : goal.returns-in_ok-one_of_both-in-Some
returns-in_ok-one_of_both-in-Some c = λ scope rows.
    let e = c.in-Some.equation in
    bool_neg_is scope rows c.args.branch.now c.args.i (the_type e.ty.now) e.left.now e.right.now c.in_ok-one_of_both-in-Some.field-0 c.in-Some.ensures (same_type-true (the_type e.ty.now) formula (sym c.same.ensures ∙ c.if-same.true)) c.in_ok-one_of_both-in-Some.ensures
