use Rattle.std.proofs.Common.{sym, ap, subst}
use Rattle.std.proofs.lemmas.Option.{get_or_from_slice_get}
use Rattle.term_bank.specs.Terms.{term_at}
use Rattle.prover_state.specs.Internal.Names.{IsPlace}
use Rattle.prover_search.proofs.shape.atom_of.Goals as goal

pub returns-clause-place : goal.returns-clause-place
returns-clause-place c =
    let basis = c.args.basis.now in
    let v = c.args.lit.var.0 in
    subst (IsPlace basis.bank.terms) (get_or_from_slice_get basis.lits v c.formula_of.result 0 c.formula_of.ensures) (c.requires.basis.atoms v 0 c.requires.number).within

pub returns-clause-atom : goal.returns-clause-atom
returns-clause-atom c =
    let basis = c.args.basis.now in
    sym (ap (term_at basis.bank.terms) (get_or_from_slice_get basis.lits c.args.lit.var.0 c.formula_of.result 0 c.formula_of.ensures))
