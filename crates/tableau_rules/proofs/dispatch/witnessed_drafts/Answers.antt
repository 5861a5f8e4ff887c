use Rattle.tableau_rules.proofs.UseLaws.{principal_wide, witnessed_by, witnesses_by, may_be_by}
use Rattle.tableau_rules.proofs.WitnessLaws.{on_err}
use Rattle.witness_names.specs.Rows.{rows_of}
use Rattle.tableau_rules.proofs.dispatch.witnessed_drafts.Goals as goal

pub returns-clause-drafted : goal.returns-clause-drafted
returns-clause-drafted c =
    let d = c.all_neg_drafts.new.bank in
    witnessed_by d c.args.lits.now c.args.lit c.principal_of-p.result
    (principal_wide c.args.bank.now d c.args.lits.now c.args.lit c.principal_of-p.result c.all_neg_drafts.ensures.widens c.requires.atoms c.requires.number c.principal_of-p.ensures.principal c.principal_of-p.ensures.is)
    (rows_of d.terms c.all_neg_drafts.new.witnesses) c.in_ok-all_neg_drafts.field-0 c.in_ok-all_neg_drafts.ensures.drafted

pub returns-clause-witnesses : goal.returns-clause-witnesses
returns-clause-witnesses c =
    let d = c.all_neg_drafts.new.bank in
    witnesses_by d c.args.lits.now c.args.lit c.principal_of-p.result
    (principal_wide c.args.bank.now d c.args.lits.now c.args.lit c.principal_of-p.result c.all_neg_drafts.ensures.widens c.requires.atoms c.requires.number c.principal_of-p.ensures.principal c.principal_of-p.ensures.is)
    c.args.witnesses.now c.all_neg_drafts.new.witnesses c.in_ok-all_neg_drafts.field-0 c.in_ok-all_neg_drafts.ensures.witnesses

pub returns-in_err-all_neg_drafts-clause-err : goal.returns-in_err-all_neg_drafts-clause-err
returns-in_err-all_neg_drafts-clause-err c =
    let d = c.all_neg_drafts.new.bank in
    on_err _ (may_be_by d c.args.lits.now c.args.lit c.principal_of-p.result
    (principal_wide c.args.bank.now d c.args.lits.now c.args.lit c.principal_of-p.result c.all_neg_drafts.ensures.widens c.requires.atoms c.requires.number c.principal_of-p.ensures.principal c.principal_of-p.ensures.is)
    c.args.witnesses.now c.all_neg_drafts.new.witnesses c.in_err-all_neg_drafts.ensures.err)
