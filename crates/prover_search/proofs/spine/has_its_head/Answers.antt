use Rattle.std.proofs.Common.{map, sym, ap, ap₂, ◌∙◌}
use Rattle.stt_core.specs.View.{the_head, the_type}
use Rattle.stt_core.proofs.HeadLaws.{atom_head}
use Rattle.term_bank.specs.Terms.{term_at, shape_term}
use Rattle.term_bank.specs.NodeView.{the_shape}
use Rattle.search_spec.specs.Spine.{same_head}
use Rattle.prover_search.proofs.ShapedLaws.{heads-same, head-no_function, tells-same}
use Rattle.prover_search.proofs.spine.has_its_head.Goals as goal

pub returns-in-App-node : goal.returns-in-App-node
returns-in-App-node c =
    let ts = c.args.bank.now.terms in
    let is = c.in-App.args in
    let js = c.in-App-node.args in
    tells-same c.same.result (the_head c.in-App.head) (the_head c.in-App-node.other) c.same.ensures
    ∙ sym
    (ap₂ same_head (c.node.ensures.term ∙ ap (λ n. shape_term ts (the_shape n)) c.in-App.is) (c.node-in-App.ensures.term ∙ ap (λ n. shape_term ts (the_shape n)) c.in-App-node.is)
    ∙ heads-same (the_head c.in-App.head) (the_head c.in-App-node.other) (atom_head c.in-App.head) (atom_head c.in-App-node.other) (map (term_at ts) is) (map (term_at ts) js))

pub returns-in-Lam-node : goal.returns-in-Lam-node
returns-in-Lam-node c =
    let ts = c.args.bank.now.terms in
    let is = c.in-App.args in
    sym
    (ap₂ same_head (c.node.ensures.term ∙ ap (λ n. shape_term ts (the_shape n)) c.in-App.is) (c.node-in-App.ensures.term ∙ ap (λ n. shape_term ts (the_shape n)) c.in-Lam-node.is)
    ∙ head-no_function (the_head c.in-App.head) (atom_head c.in-App.head) (map (term_at ts) is) (the_type c.in-Lam-node.ty) (term_at ts c.in-Lam-node.body))
