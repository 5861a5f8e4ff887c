use Rattle.std.proofs.Common.{map, sym, ap, ◌∙◌}
use Rattle.stt_core.specs.View.{the_head}
use Rattle.stt_core.proofs.HeadLaws.{atom_head}
use Rattle.tableau_calculus.specs.Internal.Heads.{equality_of}
use Rattle.term_bank.specs.Terms.{term_at, shape_term}
use Rattle.term_bank.specs.NodeView.{the_shape}
use Rattle.search_spec.specs.Spine.{head_of}
use Rattle.prover_search.proofs.ShapedLaws.{head-applied}
use Rattle.prover_search.proofs.sides.equated_type.Goals as goal

pub returns-in-App : goal.returns-in-App
returns-in-App c =
    let ts = c.args.bank.now.terms in
    c.equality_type.ensures
    ∙ sym
    (ap (λ t. equality_of (head_of t)) (c.node.ensures.term ∙ ap (λ n. shape_term ts (the_shape n)) c.in-App.is)
    ∙ ap equality_of (head-applied (the_head c.in-App.head) (atom_head c.in-App.head) (map (term_at ts) c.in-App.args)))

pub returns-in-Lam : goal.returns-in-Lam
returns-in-Lam c =
    let ts = c.args.bank.now.terms in
    sym (ap (λ t. equality_of (head_of t)) (c.node.ensures.term ∙ ap (λ n. shape_term ts (the_shape n)) c.in-Lam.is))
