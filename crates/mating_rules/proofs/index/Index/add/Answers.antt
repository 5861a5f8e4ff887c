use Rattle.std.proofs.Common.{ap, ◌++◌, ◌∷◌, [], ◌∙◌, subst}
use Rattle.term_bank.specs.NodeView.{the_shape}
use Rattle.mating_rules.specs.Noted.{Notes}
use Rattle.mating_rules.specs.Internal.Pairing.{pairing_head, KeepsWhere}
use Rattle.mating_rules.proofs.NoteLaws.{found_at, noted_right}
use Rattle.mating_rules.proofs.index.Index.add.Goals as goal

pub returns-clause-right : goal.returns-clause-right
returns-clause-right c =
    let b = c.args.bank.now in
    let head = found_at b c.args.lits.now c.args.lit.var.0 c.formula_of-atom.result c.node.result.now c.requires.number c.requires.atoms c.formula_of-atom.ensures c.node.ensures.term in
    let Kept : Notes → Type 0 = λ i. KeepsWhere (pairing_head (the_shape c.node.result.now)) c.args.lit i.heads c.add_under.new.self in
    noted_right b c.args.lits.now c.requires.atoms c.args.self.now c.requires.right c.args.lit c.requires.number (pairing_head (the_shape c.node.result.now)) head
    (record { noted = c.push.new.self.items; heads = c.add_under.new.self })
    (c.in_ok-push.ensures.items ∙ ap (λ xs. xs ++ c.args.lit ∷ []) c.in_ok-reserve.ensures.items ∙ ap (λ (i : Notes). i.noted ++ c.args.lit ∷ []) c.self.view_is)
    (subst Kept c.self.view_is c.in_ok-add_under.ensures.keeps)
