use Rattle.std.proofs.Common.{true, ◌∙◌}
use Rattle.stt_core.specs.SimpleType.{arrow}
use Rattle.stt_core.specs.Lambda.{eq}
use Rattle.tableau_calculus.specs.Literals.{Literal, plus}
use Rattle.literal_map.specs.Atoms.{bank_literal}
use Rattle.prover_state.specs.Internal.Standing.{setting_by, the_state}
use Rattle.tableau_calculus.specs.Rules.{fun_pos}
use Rattle.prover_search.specs.declared.shape.Shape.TheVariants.{FunctionEquation}
use Rattle.prover_search.proofs.ShapedLaws.{shaped-as}
use Rattle.prover_search.proofs.AloneUses.{fun_pos-takes}
use Rattle.prover_search.proofs.WorkLaws.{literal-is, worked-alone, differs-as, worked-equation}
use Rattle.prover_search.proofs.equation.work_on_functions.Goals as goal

pub apply_alone-requires-clause-fits : goal.apply_alone-requires-clause-fits
apply_alone-requires-clause-fits g c =
    let core = c.args.core.now in
    let basis = core.tables.basis in
    let lit = c.args.lit in
    let l : Literal = bank_literal basis.bank.terms basis.lits lit in
    let k = shaped-as l.atom FunctionEquation c.requires.shape in
    (_, fun_pos-takes basis lit k.0 k.1 k.2 k.3 (literal-is l true (eq (arrow k.0 k.1) k.2 k.3) c.if-lit.true k.4))

pub returns-then-lit-clause-state : goal.returns-then-lit-clause-state
returns-then-lit-clause-state g c =
    let core = c.args.core.now in
    let basis = core.tables.basis in
    let lit = c.args.lit in
    let l : Literal = bank_literal basis.bank.terms basis.lits lit in
    let setting = setting_by core.tables core.plan in
    let s = the_state core.tables core.plan in
    let k = shaped-as l.atom FunctionEquation c.requires.shape in
    let e = literal-is l true (eq (arrow k.0 k.1) k.2 k.3) c.if-lit.true k.4 in
    c.in_ok-apply_alone.ensures.state (fun_pos k.0 k.1 k.2 k.3) (fun_pos-takes basis lit k.0 k.1 k.2 k.3 e) ∙ worked-alone setting s l (plus (eq (arrow k.0 k.1) k.2 k.3)) (fun_pos k.0 k.1 k.2 k.3) e (worked-equation setting s true (arrow k.0 k.1) k.2 k.3 (differs-as l (plus (eq (arrow k.0 k.1) k.2 k.3)) e c.requires.differs))

pub work_on_unequal-requires-clause-negative : goal.work_on_unequal-requires-clause-negative
work_on_unequal-requires-clause-negative g c = c.if-lit.false
