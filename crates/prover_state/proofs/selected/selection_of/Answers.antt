use Rattle.std.proofs.Common.{◌<◌, List, sym, ap, subst, arith, ◌∙◌}
use Rattle.stt_core.specs.View.{the_head}
use Rattle.search_spec.proofs.ClosedLaws.{is_closed-of}
use Rattle.search_spec.specs.Selections.{Selection}
use Rattle.term_bank.specs.Terms.{term_at, shape_term, IsBelow}
use Rattle.term_bank.specs.NodeView.{the_shape}
use Rattle.term_bank.specs.declared.node.Node.{Node}
use Rattle.prover_state.specs.Internal.Selecting.{IsSelectedIn}
use Rattle.prover_state.proofs.EachLaws.{each-at, each-from_All}
use Rattle.prover_state.proofs.SelectingLaws.{head-app, open-none}
use Rattle.prover_state.proofs.selected.selection_of.Goals as goal

pub returns-then-not-is_closed : goal.returns-then-not-is_closed
returns-then-not-is_closed c =
    let b = c.args.bank.now in
    let ts = b.terms in
    let is = c.in-App.args in
    let e = c.node.ensures.term ∙ ap (λ n. shape_term ts (the_shape n)) c.in-App.is in
    head-app ts c.in-App.head is (term_at ts c.args.id) e c.at-f.result c.at-f.ensures
    ∙ open-none (the_head c.in-App.head) (term_at ts c.at-f.result) (λ closed. let t = c.is_closed.ensures.1 closed in grind (arith, t, c.if-not-is_closed.true))

pub returns-else-not-is_closed : goal.returns-else-not-is_closed
returns-else-not-is_closed c =
    let b = c.args.bank.now in
    let ts = b.terms in
    let is = c.in-App.args in
    let e = c.node.ensures.term ∙ ap (λ n. shape_term ts (the_shape n)) c.in-App.is in
    let below = subst (λ (n : Node). IsBelow c.args.id (the_shape n)) c.in-App.is c.node.ensures.below in
    let smaller = each-at (λ i. i < c.args.id) is 0 c.at-f.result (each-from_All (λ i. i < c.args.id) is below) c.at-f.ensures in
    let S : List Selection → Type 0 = λ ps. IsSelectedIn ts ps c.selected_by.result in
    subst S (sym (head-app ts c.in-App.head is (term_at ts c.args.id) e c.at-f.result c.at-f.ensures))
    (c.selected_by.ensures ts (omega (arith, smaller, c.requires)) (is_closed-of (term_at ts c.at-f.result) (c.is_closed.ensures.0 c.if-not-is_closed.false)))
