use Rattle.std.proofs.Common.{map, sym, ap, ◌∙◌}
use Rattle.stt_core.specs.View.{the_head}
use Rattle.stt_core.proofs.HeadLaws.{atom_head}
use Rattle.term_bank.specs.Terms.{term_at, shape_term}
use Rattle.term_bank.specs.NodeView.{the_shape}
use Rattle.search_spec.specs.Offers.{is_name}
use Rattle.head_offers.specs.Internal.Passing.{head_passes, is_number}
use Rattle.head_offers.proofs.PassLaws.{passes-applied, name-passes}
use Rattle.head_offers.proofs.names.name_at.Goals as goal

pub returns-in-App : goal.returns-in-App
returns-in-App c = λ k.
    let ts = c.args.bank.now.terms in
    let h = the_head c.in-App.head in
    ap (head_passes (is_name k)) (c.node.ensures.term ∙ ap (λ n. shape_term ts (the_shape n)) c.in-App.is)
    ∙ passes-applied (is_name k) h (map (term_at ts) c.in-App.args)
    ∙ name-passes k h (atom_head c.in-App.head)
    ∙ ap (is_number k) (sym c.name_of.ensures)
