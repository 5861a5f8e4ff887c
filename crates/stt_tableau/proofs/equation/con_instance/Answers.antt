use Rattle.std.proofs.Common.{sym, ◌∙◌}
use Rattle.stt_core.specs.View.{the_type}
use Rattle.stt_core.proofs.TypeLaws.{same_type-true}
use Rattle.tableau_calculus.proofs.InstanceLaws.{con_is}
use Rattle.stt_tableau.proofs.equation.con_instance.Goals as goal

pub returns-in_ok-either_both-in-Some-equation_at : goal.returns-in_ok-either_both-in-Some-equation_at
returns-in_ok-either_both-in-Some-equation_at c = λ scope rows.
    let e = c.in-Some.equation in
    let o = c.in-Some-equation_at.other in
    let base = c.is_plain_base.ensures.0 c.if-not-is_plain_base.false in
    con_is scope rows c.args.branch.now c.args.i c.args.j base.0 (the_type e.ty.now) (the_type o.ty.now) base.1 (same_type-true (the_type e.ty.now) (the_type o.ty.now) (sym c.same.ensures ∙ c.if-not-same.false)) e.left.now e.right.now o.left.now o.right.now
    c.in_ok-first-in-Some-equation_at.first c.in_ok-second-in-Some-equation_at.second c.in_ok-either_both-in-Some-equation_at.field-0
    c.in-Some.ensures c.in-Some-equation_at.ensures c.in_ok-first-in-Some-equation_at.ensures c.in_ok-second-in-Some-equation_at.ensures c.in_ok-either_both-in-Some-equation_at.ensures
