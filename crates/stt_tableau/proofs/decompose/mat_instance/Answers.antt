use Rattle.stt_core.specs.ScopeView.{the_scope}
use Rattle.stt_tableau.proofs.DecompositionInstances.{mat_found}
use Rattle.stt_tableau.proofs.decompose.mat_instance.Goals as goal

pub returns : goal.returns
returns c = λ rows.
    mat_found (the_scope c.args.sig.now c.args.types.now) rows c.args.branch.now c.args.i c.args.j c.spine_at-left.result c.spine_at-right.result c.in_ok-spines_differ.field-0 c.spine_at-left.ensures c.spine_at-right.ensures c.in_ok-spines_differ.ensures
