use Rattle.std.proofs.Common.{not, ap, ◌∙◌}
use Rattle.term_bank.specs.NodeView.{the_shape}
use Rattle.mating_rules.specs.Noted.{Notes}
use Rattle.mating_rules.specs.Internal.Pairing.{pairing_head, kept_where}
use Rattle.mating_rules.proofs.NoteLaws.{found_at, kept-partners}
use Rattle.mating_rules.proofs.index.Index.partners.Goals as goal

pub returns : goal.returns
returns c =
    let b = c.args.bank.now in
    let head = found_at b c.args.lits.now c.args.lit.var.0 c.formula_of-atom.result c.node.result.now c.requires.number c.requires.atoms c.formula_of-atom.ensures c.node.ensures.term in
    c.in_ok-kept_for.ensures
    ∙ ap (λ (i : Notes). kept_where (pairing_head (the_shape c.node.result.now)) (not c.args.lit.positive) i.heads) c.self.view_is
    ∙ kept-partners b c.args.lits.now c.requires.atoms c.args.self.now c.requires.right c.args.lit c.requires.number (pairing_head (the_shape c.node.result.now)) head
