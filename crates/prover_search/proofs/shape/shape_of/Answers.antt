use Rattle.std.proofs.Common.{map, sym, ap, ◌∙◌}
use Rattle.std.proofs.lemmas.List.{length-map}
use Rattle.term_bank.specs.Terms.{term_at, shape_term}
use Rattle.term_bank.specs.NodeView.{the_shape}
use Rattle.prover_search.specs.Internal.Working.{shape_of}
use Rattle.prover_search.proofs.shape.shape_of.Goals as goal

pub returns-in-App : goal.returns-in-App
returns-in-App c =
    let ts = c.args.bank.now.terms in
    let is = c.in-App.args in
    c.shape_with.ensures (map (term_at ts) is) (length-map is (term_at ts) ∙ sym c.len.ensures)
    ∙ sym (ap shape_of (c.node.ensures.term ∙ ap (λ n. shape_term ts (the_shape n)) c.in-App.is))

pub returns-in-Lam : goal.returns-in-Lam
returns-in-Lam c =
    let ts = c.args.bank.now.terms in
    sym (ap shape_of (c.node.ensures.term ∙ ap (λ n. shape_term ts (the_shape n)) c.in-Lam.is))
