use Rattle.std.proofs.Common.{◌≡◌, Some, None, sym, ap, ◌∙◌}
use Rattle.std.proofs.lemmas.Option.{same_Some}
use Rattle.stt_core.specs.SimpleType.{SimpleType, arrow}
use Rattle.stt_core.specs.View.{the_type}
use Rattle.tableau_calculus.specs.Internal.Heads.{equality_of}
use Rattle.literal_map.specs.Atoms.{bank_atom}
use Rattle.search_spec.specs.Spine.{head_of}
use Rattle.prover_state.specs.Internal.Pending.{equation_type}
use Rattle.prover_search.specs.declared.shape.Shape.TheVariants.{FunctionEquation}
use Rattle.prover_search.proofs.ShapedLaws.{shaped-as}
use Rattle.prover_search.proofs.sides.type_of_sides.Goals as goal

nothing : (a : SimpleType) → None ≡ Some a → ⊥
nothing a e = cc

pub returns : goal.returns
returns c =
    let g = c.args.basis.now in
    let t = bank_atom g.bank.terms g.lits c.args.lit.var.0 in
    let k = shaped-as t FunctionEquation c.requires.shape in
    c.in_ok-try_clone-in-Some.ensures
    ∙ same_Some (the_type c.in-Some.ty.now) (arrow k.0 k.1) (c.in-Some.ensures ∙ ap (λ u. equality_of (head_of u)) (c.atom_of.ensures.atom ∙ k.4))
    ∙ sym (ap equation_type k.4)

pub unreachable-requires : goal.unreachable-requires
unreachable-requires c =
    let g = c.args.basis.now in
    let t = bank_atom g.bank.terms g.lits c.args.lit.var.0 in
    let k = shaped-as t FunctionEquation c.requires.shape in
    nothing (arrow k.0 k.1) (c.in-None.ensures ∙ ap (λ u. equality_of (head_of u)) (c.atom_of.ensures.atom ∙ k.4))
