use Rattle.std.proofs.Common.{true, false, ◌∙◌}
use Rattle.stt_core.specs.SimpleType.{formula}
use Rattle.stt_core.specs.Lambda.{eq}
use Rattle.tableau_calculus.specs.Literals.{Literal, plus, minus}
use Rattle.literal_map.specs.Atoms.{bank_literal}
use Rattle.prover_state.specs.Internal.Standing.{setting_by, the_state}
use Rattle.tableau_calculus.specs.Rules.{bool_pos, bool_neg}
use Rattle.prover_search.specs.declared.shape.Shape.TheVariants.{FormulaEquation}
use Rattle.prover_search.proofs.ShapedLaws.{shaped-as}
use Rattle.prover_search.proofs.AloneUses.{bool_pos-takes, bool_neg-takes}
use Rattle.prover_search.proofs.WorkLaws.{literal-is, worked-alone, differs-as, worked-equation}
use Rattle.prover_search.proofs.equation.work_on_formulas.Goals as goal

pub apply_alone-requires-clause-fits : goal.apply_alone-requires-clause-fits
apply_alone-requires-clause-fits g c =
    let core = c.args.core.now in
    let basis = core.tables.basis in
    let lit = c.args.lit in
    let l : Literal = bank_literal basis.bank.terms basis.lits lit in
    let k = shaped-as l.atom FormulaEquation c.requires.shape in
    (_, bool_pos-takes basis lit k.0 k.1 (literal-is l true (eq formula k.0 k.1) c.if-lit.true k.2))

pub returns-then-lit-clause-state : goal.returns-then-lit-clause-state
returns-then-lit-clause-state g c =
    let core = c.args.core.now in
    let basis = core.tables.basis in
    let lit = c.args.lit in
    let l : Literal = bank_literal basis.bank.terms basis.lits lit in
    let setting = setting_by core.tables core.plan in
    let s = the_state core.tables core.plan in
    let k = shaped-as l.atom FormulaEquation c.requires.shape in
    let e = literal-is l true (eq formula k.0 k.1) c.if-lit.true k.2 in
    c.in_ok-apply_alone.ensures.state (bool_pos k.0 k.1) (bool_pos-takes basis lit k.0 k.1 e) ∙ worked-alone setting s l (plus (eq formula k.0 k.1)) (bool_pos k.0 k.1) e (worked-equation setting s true formula k.0 k.1 (differs-as l (plus (eq formula k.0 k.1)) e c.requires.differs))

pub apply_alone-requires-2-clause-fits : goal.apply_alone-requires-2-clause-fits
apply_alone-requires-2-clause-fits g c =
    let core = c.args.core.now in
    let basis = core.tables.basis in
    let lit = c.args.lit in
    let l : Literal = bank_literal basis.bank.terms basis.lits lit in
    let k = shaped-as l.atom FormulaEquation c.requires.shape in
    (_, bool_neg-takes basis lit k.0 k.1 (literal-is l false (eq formula k.0 k.1) c.if-lit.false k.2))

pub returns-clause-state : goal.returns-clause-state
returns-clause-state g c =
    let core = c.args.core.now in
    let basis = core.tables.basis in
    let lit = c.args.lit in
    let l : Literal = bank_literal basis.bank.terms basis.lits lit in
    let setting = setting_by core.tables core.plan in
    let s = the_state core.tables core.plan in
    let k = shaped-as l.atom FormulaEquation c.requires.shape in
    let e = literal-is l false (eq formula k.0 k.1) c.if-lit.false k.2 in
    c.in_ok-apply_alone-2.ensures.state (bool_neg k.0 k.1) (bool_neg-takes basis lit k.0 k.1 e) ∙ worked-alone setting s l (minus (eq formula k.0 k.1)) (bool_neg k.0 k.1) e (worked-equation setting s false formula k.0 k.1 (differs-as l (minus (eq formula k.0 k.1)) e c.requires.differs))
