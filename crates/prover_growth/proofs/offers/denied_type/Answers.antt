use Rattle.std.proofs.Common.{◌≡◌, ◌<◌, length, Some, None, sym, ap, subst, ◌∙◌}
use Rattle.std.proofs.lemmas.Option.{get_or_from_slice_get}
use Rattle.stt_core.specs.SimpleType.{SimpleType}
use Rattle.stt_core.specs.View.{the_type}
use Rattle.tableau_calculus.specs.Literals.{Literal}
use Rattle.term_bank.specs.Terms.{term_at}
use Rattle.prover_state.specs.Internal.Shapes.{quantified_type}
use Rattle.prover_growth.proofs.offers.denied_type.Goals as goal

same_type_of : (a b : SimpleType) → Some a ≡ Some b → a ≡ b
same_type_of a b e = cc

nothing : (a : SimpleType) → None ≡ Some a → ⊥
nothing a e = cc

pub quantified_type-requires : goal.quantified_type-requires
quantified_type-requires c =
    let g = c.args.basis.now in
    let v = c.args.lit.var.0 in
    subst (λ i. i < length g.bank.terms) (get_or_from_slice_get g.lits v c.formula_of.result c.formula_of.result c.formula_of.ensures) (c.requires.good.atoms v c.formula_of.result c.requires.number).within

pub returns : goal.returns
returns c = λ a f denies.
    let g = c.args.basis.now in
    let atom = get_or_from_slice_get g.lits c.args.lit.var.0 c.formula_of.result 0 c.formula_of.ensures in
    let is = c.in-Some.ensures ∙ ap (λ i. quantified_type (term_at g.bank.terms i)) (sym atom) ∙ ap (λ (l : Literal). quantified_type l.atom) denies in
    c.in_ok-try_clone-in-Some.ensures ∙ same_type_of (the_type c.in-Some.ty.now) a is

pub unreachable-requires : goal.unreachable-requires
unreachable-requires c =
    let g = c.args.basis.now in
    let atom = get_or_from_slice_get g.lits c.args.lit.var.0 c.formula_of.result 0 c.formula_of.ensures in
    nothing c.requires.denies.0 (c.in-None.ensures ∙ ap (λ i. quantified_type (term_at g.bank.terms i)) (sym atom) ∙ ap (λ (l : Literal). quantified_type l.atom) c.requires.denies.1.1)
