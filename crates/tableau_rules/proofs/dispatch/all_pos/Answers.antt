use Rattle.std.proofs.Common.{sym}
use Rattle.term_bank.specs.Terms.{term_at}
use Rattle.term_bank.proofs.GrowLaws.{grown_at}
use Rattle.tableau_rules.proofs.UseLaws.{principal_now, all_pos_by}
use Rattle.tableau_rules.proofs.dispatch.all_pos.Goals as goal

pub returns-clause-drafted : goal.returns-clause-drafted
returns-clause-drafted c =
    let b = c.args.bank.now in
    let d = c.all_pos_drafts.new.bank in
    let g = c.all_pos_drafts.ensures.grows in
    all_pos_by d c.args.lits.now c.args.lit c.args.term c.principal_of-p.result (term_at b.terms c.args.term) c.in_ok-all_pos_drafts.field-0 (sym (grown_at b d c.args.term g c.requires.term))
    (principal_now b d c.args.lits.now c.args.lit c.principal_of-p.result g c.requires.atoms c.requires.number c.principal_of-p.ensures.principal c.principal_of-p.ensures.is)
    c.in_ok-all_pos_drafts.ensures.drafted
