use Rattle.std.proofs.Common.{◌<◌, length, slice_get, arith, ap, subst, ◌∙◌}
use Rattle.std.proofs.lemmas.List.{length-map}
use Rattle.stt_core.proofs.ListLaws.{mapped_get}
use Rattle.term_bank.specs.Terms.{term_at, shape_term, IsBelow}
use Rattle.term_bank.specs.NodeView.{the_shape}
use Rattle.term_bank.specs.declared.node.Node.{Node}
use Rattle.prover_state.proofs.EachLaws.{each-at, each-from_All}
use Rattle.prover_state.proofs.SelectingLaws.{parts-app}
use Rattle.prover_state.proofs.selected.part_of.Goals as goal

pub at-requires : goal.at-requires
at-requires c =
    let b = c.args.bank.now in
    let ts = b.terms in
    let is = c.in-App.args in
    let e = c.node.ensures.term ∙ ap (λ n. shape_term ts (the_shape n)) c.in-App.is in
    let n = ap length (parts-app ts c.in-App.head is (term_at ts c.args.id) e) ∙ length-map is (term_at ts) in
    omega (arith, c.requires.within, n)

pub returns-in-App-clause-smaller : goal.returns-in-App-clause-smaller
returns-in-App-clause-smaller c =
    let is = c.in-App.args in
    let below = subst (λ (n : Node). IsBelow c.args.id (the_shape n)) c.in-App.is c.node.ensures.below in
    each-at (λ i. i < c.args.id) is c.args.i c.at.result (each-from_All (λ i. i < c.args.id) is below) c.at.ensures

pub returns-in-App-clause-part : goal.returns-in-App-clause-part
returns-in-App-clause-part c =
    let b = c.args.bank.now in
    let ts = b.terms in
    let is = c.in-App.args in
    let e = c.node.ensures.term ∙ ap (λ n. shape_term ts (the_shape n)) c.in-App.is in
    ap (λ us. slice_get us c.args.i) (parts-app ts c.in-App.head is (term_at ts c.args.id) e) ∙ mapped_get (term_at ts) is c.args.i c.at.result c.at.ensures
