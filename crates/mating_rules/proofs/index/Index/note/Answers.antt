use Rattle.std.proofs.Common.{not, ap, ◌++◌, ◌∷◌, [], ◌∙◌, subst}
use Rattle.term_bank.specs.NodeView.{the_shape}
use Rattle.mating_rules.specs.Noted.{Notes}
use Rattle.mating_rules.specs.Internal.Pairing.{pairing_head, kept_where, KeepsWhere}
use Rattle.mating_rules.proofs.NoteLaws.{found_at, kept-partners, noted_right}
use Rattle.mating_rules.proofs.index.Index.note.Goals as goal

pub returns-clause-partners : goal.returns-clause-partners
returns-clause-partners c =
    let b = c.args.bank.now in
    let head = found_at b c.args.lits.now c.args.lit.var.0 c.formula_of-atom.result c.node.result.now c.requires.number c.requires.atoms c.formula_of-atom.ensures c.node.ensures.term in
    c.in_ok-partners.ensures.partners
    ∙ ap (λ (i : Notes). kept_where (pairing_head (the_shape c.node.result.now)) (not c.args.lit.positive) i.heads) c.self.view_is
    ∙ kept-partners b c.args.lits.now c.requires.atoms c.args.self.now c.requires.right c.args.lit c.requires.number (pairing_head (the_shape c.node.result.now)) head

pub returns-clause-right : goal.returns-clause-right
returns-clause-right c =
    let b = c.args.bank.now in
    let head = found_at b c.args.lits.now c.args.lit.var.0 c.formula_of-atom.result c.node.result.now c.requires.number c.requires.atoms c.formula_of-atom.ensures c.node.ensures.term in
    let Kept : Notes → Type 0 = λ i. KeepsWhere (pairing_head (the_shape c.node.result.now)) c.args.lit i.heads c.keep_under.new.self in
    noted_right b c.args.lits.now c.requires.atoms c.args.self.now c.requires.right c.args.lit c.requires.number (pairing_head (the_shape c.node.result.now)) head
    (record { noted = c.push.new.self.items; heads = c.keep_under.new.self })
    (c.in_ok-push.ensures.items ∙ ap (λ xs. xs ++ c.args.lit ∷ []) c.in_ok-reserve.ensures.items ∙ ap (λ (i : Notes). i.noted ++ c.args.lit ∷ []) c.self.view_is)
    (subst Kept c.self.view_is c.in_ok-partners.ensures.keeps)
