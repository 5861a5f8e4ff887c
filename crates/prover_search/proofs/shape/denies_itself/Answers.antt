use Rattle.std.proofs.Common.{Bool, sym, ap, ◌∙◌}
use Rattle.std.specs.Prelude.{not, ◌&&◌}
use Rattle.search_spec.specs.Partners.{has_equal_sides}
use Rattle.literal_map.specs.Atoms.{bank_literal}
use Rattle.prover_search.proofs.shape.denies_itself.Goals as goal

pub returns-then-lit : goal.returns-then-lit
returns-then-lit c =
    let basis = c.args.basis.now in
    sym (ap (λ (x : Bool). not x && has_equal_sides (bank_literal basis.bank.terms basis.lits c.args.lit).atom) c.if-lit.true)

pub returns : goal.returns
returns c =
    let basis = c.args.basis.now in
    c.has_equal_sides.ensures ∙ ap has_equal_sides c.atom_of.ensures.atom
    ∙ sym (ap (λ (x : Bool). not x && has_equal_sides (bank_literal basis.bank.terms basis.lits c.args.lit).atom) c.if-lit.false)
