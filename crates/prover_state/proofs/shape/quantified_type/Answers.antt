use Rattle.std.proofs.Common.{map, sym, ap, ◌∙◌, arith}
use Rattle.std.proofs.lemmas.List.{length-map}
use Rattle.stt_core.specs.View.{the_head}
use Rattle.stt_core.proofs.HeadLaws.{atom_head}
use Rattle.term_bank.specs.Terms.{term_at, shape_term}
use Rattle.term_bank.specs.NodeView.{the_shape}
use Rattle.prover_state.specs.Internal.Shapes.{quantified_type}
use Rattle.prover_state.proofs.ShapeLaws.{quantified-others, quantified-single}
use Rattle.prover_state.proofs.shape.quantified_type.Goals as goal

pub returns-then-len-ne1 : goal.returns-then-len-ne1
returns-then-len-ne1 c =
    let ts = c.args.bank.now.terms in
    let is = c.in-App.args in
    sym
    (ap quantified_type (c.node.ensures.term ∙ ap (λ n. shape_term ts (the_shape n)) c.in-App.is)
    ∙ quantified-others (the_head c.in-App.head) (atom_head c.in-App.head) (map (term_at ts) is) (λ n. absurd (omega (arith, n, length-map is (term_at ts), c.len.ensures, c.if-len-ne1.true))))

pub returns-else-len-ne1 : goal.returns-else-len-ne1
returns-else-len-ne1 c =
    let ts = c.args.bank.now.terms in
    let is = c.in-App.args in
    c.quantifier_type.ensures
    ∙ quantified-single (the_head c.in-App.head) (map (term_at ts) is) (omega (arith, length-map is (term_at ts), c.len.ensures, c.if-len-ne1.false))
    ∙ sym (ap quantified_type (c.node.ensures.term ∙ ap (λ n. shape_term ts (the_shape n)) c.in-App.is))
