use Rattle.std.proofs.Common.{◌≡◌, Some, None, sym, ap, ◌∙◌}
use Rattle.std.proofs.lemmas.Option.{same_Some}
use Rattle.stt_core.specs.View.{the_type}
use Rattle.literal_map.specs.Atoms.{bank_atom}
use Rattle.prover_state.specs.Internal.Pending.{range_of}
use Rattle.prover_state.specs.Internal.Shapes.{quantified_type}
use Rattle.prover_search.specs.declared.shape.Shape.TheVariants.{Quantified}
use Rattle.prover_search.proofs.ShapedLaws.{shaped-as}
use Rattle.prover_search.proofs.quantifier.range_of.Goals as goal

pub returns : goal.returns
returns c =
    let basis = c.args.basis.now in
    let k = shaped-as (bank_atom basis.bank.terms basis.lits c.args.lit.var.0) Quantified c.requires.shape in
    c.in_ok-try_clone-in-Some.ensures
    ∙ same_Some (the_type c.in-Some.ty.now) k.0 (c.in-Some.ensures ∙ ap quantified_type (c.atom_of.ensures.atom ∙ k.2))
    ∙ sym (ap range_of k.2)

pub unreachable-requires : goal.unreachable-requires
unreachable-requires c =
    let basis = c.args.basis.now in
    let k = shaped-as (bank_atom basis.bank.terms basis.lits c.args.lit.var.0) Quantified c.requires.shape in
    let none : None ≡ Some k.0 = c.in-None.ensures ∙ ap quantified_type (c.atom_of.ensures.atom ∙ k.2) in
    cc
