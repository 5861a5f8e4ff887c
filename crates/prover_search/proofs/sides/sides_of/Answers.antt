use Rattle.std.proofs.Common.{sym, ap, ◌∙◌, length, slice_get, arith}
use Rattle.literal_map.specs.Atoms.{bank_atom}
use Rattle.prover_state.specs.Internal.Selecting.{term_parts}
use Rattle.prover_search.proofs.ShapedLaws.{sides-are, two-parts}
use Rattle.prover_search.proofs.sides.sides_of.Goals as goal

pub part_of-requires-clause-within : goal.part_of-requires-clause-within
part_of-requires-clause-within c =
    let basis = c.args.basis.now in
    let t = bank_atom basis.bank.terms basis.lits c.args.lit.var.0 in
    let n = ap (λ u. length (term_parts u)) c.atom_of-atom.ensures.atom ∙ two-parts t c.requires.equation in
    omega (arith, n)

pub part_of-requires-2-clause-within : goal.part_of-requires-2-clause-within
part_of-requires-2-clause-within c =
    let basis = c.args.basis.now in
    let t = bank_atom basis.bank.terms basis.lits c.args.lit.var.0 in
    let n = ap (λ u. length (term_parts u)) c.atom_of-atom.ensures.atom ∙ two-parts t c.requires.equation in
    omega (arith, n)

pub returns-clause-equation : goal.returns-clause-equation
returns-clause-equation c =
    let basis = c.args.basis.now in
    let t = bank_atom basis.bank.terms basis.lits c.args.lit.var.0 in
    let e = sym c.atom_of-atom.ensures.atom in
    sides-are t c.requires.equation _ _ (ap (λ u. slice_get (term_parts u) 0) e ∙ c.part_of.ensures.part) (ap (λ u. slice_get (term_parts u) 1) e ∙ c.part_of-2.ensures.part)
