use Rattle.std.proofs.Common.{length, sym, ap, ◌∙◌}
use Rattle.std.proofs.lemmas.List.{length-map}
use Rattle.term_bank.specs.Terms.{term_at, shape_term}
use Rattle.term_bank.specs.NodeView.{the_shape}
use Rattle.prover_state.proofs.SelectingLaws.{parts-app}
use Rattle.prover_state.proofs.selected.count_parts.Goals as goal

pub returns-in-App : goal.returns-in-App
returns-in-App c =
    let b = c.args.bank.now in
    let ts = b.terms in
    let is = c.in-App.args in
    let e = c.node.ensures.term ∙ ap (λ n. shape_term ts (the_shape n)) c.in-App.is in
    c.len.ensures ∙ sym (ap length (parts-app ts c.in-App.head is (term_at ts c.args.id) e) ∙ length-map is (term_at ts))
