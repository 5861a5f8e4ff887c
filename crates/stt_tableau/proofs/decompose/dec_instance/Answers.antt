use Rattle.stt_core.specs.ScopeView.{the_scope}
use Rattle.stt_core.specs.View.{the_type}
use Rattle.stt_tableau.proofs.DecompositionInstances.{dec_found}
use Rattle.stt_tableau.proofs.decompose.dec_instance.Goals as goal

pub returns-in_ok-spines_differ-in-Some : goal.returns-in_ok-spines_differ-in-Some
returns-in_ok-spines_differ-in-Some c = λ rows.
    let e = c.in-Some.equation in
    let b = c.is_plain_base.ensures.0 c.if-is_plain_base.true in
    dec_found (the_scope c.args.sig.now c.args.types.now) rows c.args.branch.now c.args.i b.0 (the_type e.ty.now) e.left.now e.right.now c.spine_of-left.result c.spine_of-right.result c.in_ok-spines_differ-in-Some.field-0 c.in-Some.ensures b.1 c.spine_of-left.ensures c.spine_of-right.ensures c.in_ok-spines_differ-in-Some.ensures
