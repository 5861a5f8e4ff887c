use Rattle.std.proofs.Common.{map, sym, ap, ◌∙◌}
use Rattle.stt_core.specs.SimpleType.{same_type}
use Rattle.stt_core.specs.View.{the_head, the_type}
use Rattle.stt_core.proofs.HeadLaws.{atom_head}
use Rattle.term_bank.specs.Terms.{term_at, shape_term}
use Rattle.term_bank.specs.NodeView.{the_shape}
use Rattle.tableau_rules.proofs.DeclareLaws.{no_spine}
use Rattle.prover_growth.proofs.OffersLaws.{row-type}
use Rattle.prover_growth.proofs.offers.has_witness_type.Goals as goal

pub returns : goal.returns
returns c = λ r e.
    let g = c.args.basis.now in
    let ts = g.bank.terms in
    c.same.ensures
    ∙ ap (same_type (the_type c.args.ty.now)) (sym (row-type g c.args.w c.predicate.result c.predicate.ensures r e (the_type c.in-Lam.own) (term_at ts c.in-Lam.body) (c.node.ensures.term ∙ ap (λ n. shape_term ts (the_shape n)) c.in-Lam.is)))

pub unreachable-requires : goal.unreachable-requires
unreachable-requires c =
    let g = c.args.basis.now in
    let b = g.bank in
    no_spine b g.witnesses c.requires.good.rows c.args.w c.predicate.result c.predicate.ensures (the_head c.in-App.head) (map (term_at b.terms) c.in-App.args) (atom_head c.in-App.head)
    (c.node.ensures.term ∙ ap (λ n. shape_term b.terms (the_shape n)) c.in-App.is)
