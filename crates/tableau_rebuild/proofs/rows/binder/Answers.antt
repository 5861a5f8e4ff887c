use Rattle.std.proofs.Common.{map, sym, ap, ◌∙◌}
use Rattle.term_bank.specs.NodeView.{the_shape}
use Rattle.term_bank.specs.Terms.{term_at, shape_term}
use Rattle.witness_names.specs.Rows.{binder_of}
use Rattle.tableau_rebuild.proofs.NeededLaws.{binder_of-head}
use Rattle.tableau_rebuild.proofs.rows.binder.Goals as goal

pub returns-in-App : goal.returns-in-App
returns-in-App c =
    let b = c.args.bank.now in
    let term = c.node.ensures.term ∙ ap (λ n. shape_term b.terms (the_shape n)) c.in-App.is in
    sym (ap binder_of term ∙ binder_of-head c.in-App.head (map (term_at b.terms) c.in-App.args))
