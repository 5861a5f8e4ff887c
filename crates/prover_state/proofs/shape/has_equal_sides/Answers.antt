use Rattle.std.proofs.Common.{◌<◌, map, sym, ap, subst, ◌∙◌, arith}
use Rattle.std.proofs.lemmas.List.{length-map}
use Rattle.stt_core.specs.View.{the_head}
use Rattle.stt_core.proofs.HeadLaws.{atom_head}
use Rattle.term_bank.specs.Terms.{term_at, shape_term, IsBelow}
use Rattle.term_bank.specs.declared.node.Node.{Node}
use Rattle.term_bank.specs.NodeView.{the_shape}
use Rattle.search_spec.specs.Partners.{has_equal_sides}
use Rattle.prover_state.specs.Internal.Names.{IsPlace}
use Rattle.prover_state.proofs.EachLaws.{each-at, each-weaker, each-from_All}
use Rattle.prover_state.proofs.PlaceLaws.{same-places}
use Rattle.prover_state.proofs.ShapeLaws.{sides-others, sides-pair, no-equality}
use Rattle.prover_state.proofs.shape.has_equal_sides.Goals as goal

pub returns-then-len-ne2 : goal.returns-then-len-ne2
returns-then-len-ne2 c =
    let ts = c.args.bank.now.terms in
    let is = c.in-App.args in
    sym
    (ap has_equal_sides (c.node.ensures.term ∙ ap (λ n. shape_term ts (the_shape n)) c.in-App.is)
    ∙ sides-others (the_head c.in-App.head) (atom_head c.in-App.head) (map (term_at ts) is) (λ n. absurd (omega (arith, n, length-map is (term_at ts), c.len.ensures, c.if-len-ne2.true))))

pub returns-then-not-is_equality : goal.returns-then-not-is_equality
returns-then-not-is_equality c =
    let ts = c.args.bank.now.terms in
    let is = c.in-App.args in
    sym
    (ap has_equal_sides (c.node.ensures.term ∙ ap (λ n. shape_term ts (the_shape n)) c.in-App.is)
    ∙ no-equality (the_head c.in-App.head) (map (term_at ts) is) (omega (arith, length-map is (term_at ts), c.len.ensures, c.if-len-ne2.false)) (sym c.is_equality.ensures ∙ c.if-not-is_equality.true))

pub returns-else-not-is_equality : goal.returns-else-not-is_equality
returns-else-not-is_equality c =
    let b = c.args.bank.now in
    let is = c.in-App.args in
    let below = subst (λ (n : Node). IsBelow c.args.id (the_shape n)) c.in-App.is c.node.ensures.below in
    let places = each-weaker (λ i. i < c.args.id) (IsPlace b.terms) (λ i h. omega (arith, h, c.requires)) is (each-from_All (λ i. i < c.args.id) is below) in
    sym (same-places b c.equal_ids_for_equal_terms.ensures c.at.result c.at-in-App.result (each-at (IsPlace b.terms) is 0 c.at.result places c.at.ensures) (each-at (IsPlace b.terms) is 1 c.at-in-App.result places c.at-in-App.ensures))
    ∙ sym
    (ap has_equal_sides (c.node.ensures.term ∙ ap (λ n. shape_term b.terms (the_shape n)) c.in-App.is)
    ∙ sides-pair (the_head c.in-App.head) (term_at b.terms) is c.at.result c.at-in-App.result (omega (arith, c.len.ensures, c.if-len-ne2.false)) c.at.ensures c.at-in-App.ensures (sym c.is_equality.ensures ∙ c.if-not-is_equality.false))
