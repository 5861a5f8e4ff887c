use Rattle.std.proofs.Common.{map, sym, ap, ◌∙◌}
use Rattle.stt_core.specs.View.{the_head}
use Rattle.stt_core.proofs.HeadLaws.{atom_head}
use Rattle.term_bank.specs.Terms.{term_at, shape_term}
use Rattle.term_bank.specs.NodeView.{the_shape}
use Rattle.search_spec.specs.Defaults.{holds_of_nothing}
use Rattle.instantiate.proofs.DefaultLaws.{nothing-applied}
use Rattle.instantiate.proofs.defaults.holds_of_nothing.Goals as goal

pub returns-in-App : goal.returns-in-App
returns-in-App c =
    let ts = c.args.bank.now.terms in
    sym
    (ap holds_of_nothing (c.node.ensures.term ∙ ap (λ n. shape_term ts (the_shape n)) c.in-App.is)
    ∙ nothing-applied (the_head c.in-App.head) (atom_head c.in-App.head) (map (term_at ts) c.in-App.args))
