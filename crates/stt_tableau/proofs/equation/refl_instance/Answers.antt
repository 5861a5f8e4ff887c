use Rattle.stt_core.specs.View.{the_type}
use Rattle.tableau_calculus.proofs.InstanceLaws.{refl_is}
use Rattle.stt_tableau.proofs.equation.refl_instance.Goals as goal

pub returns-then-same_nf : goal.returns-then-same_nf
returns-then-same_nf c = λ scope rows.
    let e = c.in-Some.equation in
    refl_is scope rows c.args.branch.now c.args.i (the_type e.ty.now) e.left.now e.right.now c.new.result c.in-Some.ensures (c.same_nf.ensures.0 c.if-same_nf.true) c.new.ensures
