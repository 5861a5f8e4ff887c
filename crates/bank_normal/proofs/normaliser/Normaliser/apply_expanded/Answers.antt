use Rattle.std.proofs.Common.{◌<◌, length, sym, ap, subst, ◌∙◌, arith}
use Rattle.std.specs.Prelude.{All}
use Rattle.term_bank.specs.Terms.{shape_term, IsBelow}
use Rattle.term_bank.specs.NodeView.{the_shape}
use Rattle.bank_normal.proofs.NodeLaws.{all_below}
use Rattle.bank_normal.proofs.normaliser.Normaliser.apply_expanded.Goals as goal

pub apply_form-requires-clause-body : goal.apply_form-requires-clause-body
apply_form-requires-clause-body c =
    let shape = sym c.in_ok-node.ensures ∙ ap the_shape c.in-App.is in
    c.node.ensures.term ∙ ap (shape_term c.args.bank.now.terms) shape

pub apply_form-requires-clause-inner : goal.apply_form-requires-clause-inner
apply_form-requires-clause-inner c =
    let shape = sym c.in_ok-node.ensures ∙ ap the_shape c.in-App.is in
    let n = c.within_binders-body.result in
    let below : All (λ i. i < n) c.in-App.inner = subst (IsBelow n) shape c.node.ensures.below in
    all_below n (length c.args.bank.now.terms) c.in-App.inner (omega (arith, c.within_binders-body.ensures)) below
