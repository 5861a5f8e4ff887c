use Rattle.std.proofs.Common.{map, ap, refl, ◌∙◌, arith}
use Rattle.stt_core.specs.View.{the_type, the_head}
use Rattle.stt_core.proofs.HeadLaws.{atom_head}
use Rattle.term_bank.specs.Terms.{term_at, shape_term}
use Rattle.term_bank.specs.NodeView.{the_shape}
use Rattle.tableau_rules.proofs.DeclareLaws.{no_spine, declares_next, declares_itself}
use Rattle.tableau_rules.proofs.witness.declare_next.Goals as goal

pub returns-in_err-ty-in-Lam-clause-declares : goal.returns-in_err-ty-in-Lam-clause-declares
returns-in_err-ty-in-Lam-clause-declares c = declares_itself c.args.bank.now c.args.bank.now c.args.witnesses.now c.requires.rows refl

pub add_witness-requires-clause-few : goal.add_witness-requires-clause-few
add_witness-requires-clause-few c = omega (arith, c.requires.next, c.requires.few)

pub returns-in_err-add_witness-in-Lam-clause-declares : goal.returns-in_err-add_witness-in-Lam-clause-declares
returns-in_err-add_witness-in-Lam-clause-declares c = declares_itself c.args.bank.now c.add_witness.new.self c.args.witnesses.now c.requires.rows c.in_err-add_witness-in-Lam.ensures.err

pub unreachable-requires : goal.unreachable-requires
unreachable-requires c =
    let b = c.args.bank.now in
    no_spine b c.args.witnesses.now c.requires.rows c.args.w c.predicate.result c.predicate.ensures (the_head c.in-App.head) (map (term_at b.terms) c.in-App.args) (atom_head c.in-App.head)
    (c.node.ensures.term ∙ ap (λ n. shape_term b.terms (the_shape n)) c.in-App.is)

pub returns-clause-declares : goal.returns-clause-declares
returns-clause-declares c =
    let b = c.args.bank.now in
    declares_next b c.args.witnesses.now c.requires.rows c.args.w c.predicate.result c.predicate.ensures (the_type c.in-Lam.ty) (term_at b.terms c.in-Lam.body)
    (c.node.ensures.term ∙ ap (λ n. shape_term b.terms (the_shape n)) c.in-Lam.is) c.requires.next
    (the_type c.in_ok-ty-in-Lam.ty) c.in_ok-ty-in-Lam.ensures c.add_witness.new.self c.in_ok-add_witness-in-Lam.ensures.ok
