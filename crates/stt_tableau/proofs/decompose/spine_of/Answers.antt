use Rattle.std.proofs.Common.{arith}
use Rattle.stt_core.specs.View.{the_head}
use Rattle.stt_core.proofs.HeadLaws.{atom_head}
use Rattle.tableau_calculus.proofs.ListLaws.{untrue}
use Rattle.stt_tableau.proofs.SpineShapes.{no_spine-binders, no_spine-count, no_spine-head, is_spine}
use Rattle.stt_tableau.proofs.decompose.spine_of.Goals as goal

pub returns-then-len-gt0 : goal.returns-then-len-gt0
returns-then-len-gt0 c =
    let i = c.nf.inside in
    no_spine-binders i.binders (the_head i.head) i.args c.args.nf.now (atom_head i.head) c.nf.view_is (omega (arith, c.len.ensures, c.if-len-gt0.true))

pub returns-then-len-eq0 : goal.returns-then-len-eq0
returns-then-len-eq0 c =
    let i = c.nf.inside in
    no_spine-count i.binders (the_head i.head) i.args c.args.nf.now (atom_head i.head) c.nf.view_is (omega (arith, c.len-2.ensures, c.if-len-eq0.true))

pub returns-then-is_decomposed : goal.returns-then-is_decomposed
returns-then-is_decomposed c =
    let i = c.nf.inside in
    is_spine i.binders (the_head i.head) i.args c.args.nf.now (atom_head i.head) c.nf.view_is (omega (arith, c.len.ensures, c.if-len-gt0.false)) (λ e. absurd (omega (arith, e, c.len-2.ensures, c.if-len-eq0.false))) (c.is_decomposed.ensures.0 c.if-is_decomposed.true)

pub returns-else-is_decomposed : goal.returns-else-is_decomposed
returns-else-is_decomposed c =
    let i = c.nf.inside in
    no_spine-head i.binders (the_head i.head) i.args c.args.nf.now (atom_head i.head) c.nf.view_is (λ h. untrue (c.is_decomposed.ensures.1 h) c.if-is_decomposed.false)
