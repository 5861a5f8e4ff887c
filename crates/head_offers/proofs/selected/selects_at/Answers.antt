use Rattle.std.proofs.Common.{map, sym, ap, ◌∙◌}
use Rattle.stt_core.specs.View.{the_head}
use Rattle.term_bank.specs.Terms.{term_at, shape_term}
use Rattle.term_bank.specs.NodeView.{the_shape}
use Rattle.search_spec.specs.Offers.{is_selection}
use Rattle.head_offers.specs.Internal.Passing.{head_passes}
use Rattle.head_offers.proofs.PassLaws.{passes-applied}
use Rattle.head_offers.proofs.selected.selects_at.Goals as goal

pub returns-in-App : goal.returns-in-App
returns-in-App c =
    let ts = c.args.bank.now.terms in
    c.selects.ensures
    ∙ sym
    (ap (head_passes is_selection) (c.node.ensures.term ∙ ap (λ n. shape_term ts (the_shape n)) c.in-App.is)
    ∙ passes-applied is_selection (the_head c.in-App.head) (map (term_at ts) c.in-App.args))
