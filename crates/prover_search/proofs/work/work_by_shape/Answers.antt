use Rattle.std.proofs.Common.{sym, ap, ◌∙◌}
use Rattle.prover_search.specs.Internal.Working.{shape_of}
use Rattle.prover_search.proofs.AdvanceLaws.{alone-advances}
use Rattle.std.proofs.lemmas.Result.{on_ok_weaker}
use Rattle.prover_search.proofs.work.work_by_shape.Goals as goal

pub work_on_formulas-requires-clause-shape : goal.work_on_formulas-requires-clause-shape
work_on_formulas-requires-clause-shape g c = ap shape_of (sym c.atom_of-atom.ensures.atom) ∙ sym c.shape_of.ensures ∙ c.in-FormulaEquation.is

pub work_on_functions-requires-clause-shape : goal.work_on_functions-requires-clause-shape
work_on_functions-requires-clause-shape g c = ap shape_of (sym c.atom_of-atom.ensures.atom) ∙ sym c.shape_of.ensures ∙ c.in-FunctionEquation.is

pub work_on_terms-requires-clause-shape : goal.work_on_terms-requires-clause-shape
work_on_terms-requires-clause-shape g c = ap shape_of (sym c.atom_of-atom.ensures.atom) ∙ sym c.shape_of.ensures ∙ c.in-BaseEquation.is

pub work_on_quantified-requires-clause-shape : goal.work_on_quantified-requires-clause-shape
work_on_quantified-requires-clause-shape g c = ap shape_of (sym c.atom_of-atom.ensures.atom) ∙ sym c.shape_of.ensures ∙ c.in-Quantified.is

pub work_on_other-requires-clause-shape : goal.work_on_other-requires-clause-shape
work_on_other-requires-clause-shape g c = ap shape_of (sym c.atom_of-atom.ensures.atom) ∙ sym c.shape_of.ensures ∙ c.in-Other.is

pub returns-in-FormulaEquation-clause-advances : goal.returns-in-FormulaEquation-clause-advances
returns-in-FormulaEquation-clause-advances g c = on_ok_weaker c.work_on_formulas.result (alone-advances c.args.core.now c.work_on_formulas.new.core) c.work_on_formulas.ensures.advances

pub returns-in-FunctionEquation-clause-advances : goal.returns-in-FunctionEquation-clause-advances
returns-in-FunctionEquation-clause-advances g c = on_ok_weaker c.work_on_functions.result (alone-advances c.args.core.now c.work_on_functions.new.core) c.work_on_functions.ensures.advances

pub returns-in-BaseEquation-clause-advances : goal.returns-in-BaseEquation-clause-advances
returns-in-BaseEquation-clause-advances g c = on_ok_weaker c.work_on_terms.result (alone-advances c.args.core.now c.work_on_terms.new.core) c.work_on_terms.ensures.advances

pub returns-in-Other-clause-advances : goal.returns-in-Other-clause-advances
returns-in-Other-clause-advances g c = on_ok_weaker c.work_on_other.result (alone-advances c.args.core.now c.work_on_other.new.core) c.work_on_other.ensures.advances
