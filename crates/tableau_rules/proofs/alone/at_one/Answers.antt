use Rattle.tableau_calculus.specs.declared.rule_use.OnePlace.TheVariants.{False, Refl, ImpPos, ImpNeg, BoolPos, BoolNeg, FunPos, FunNeg, Dec}
use Rattle.tableau_rules.proofs.UseLaws.{principal_now, one_by}
use Rattle.tableau_rules.proofs.alone.at_one.Goals as goal

pub returns-in-False-clause-drafted : goal.returns-in-False-clause-drafted
returns-in-False-clause-drafted c = one_by c.args.bank.now c.args.lits.now c.args.rule c.args.lit c.principal_of-p.result False c.false_drafts.result c.in-False.is c.principal_of-p.ensures.is c.false_drafts.ensures

pub returns-in-Refl-clause-drafted : goal.returns-in-Refl-clause-drafted
returns-in-Refl-clause-drafted c = one_by c.args.bank.now c.args.lits.now c.args.rule c.args.lit c.principal_of-p.result Refl c.refl_drafts.result c.in-Refl.is c.principal_of-p.ensures.is c.refl_drafts.ensures

pub returns-in_ok-imp_pos_drafts-in-ImpPos-clause-drafted : goal.returns-in_ok-imp_pos_drafts-in-ImpPos-clause-drafted
returns-in_ok-imp_pos_drafts-in-ImpPos-clause-drafted c = one_by c.args.bank.now c.args.lits.now c.args.rule c.args.lit c.principal_of-p.result ImpPos c.in_ok-imp_pos_drafts-in-ImpPos.field-0 c.in-ImpPos.is c.principal_of-p.ensures.is c.in_ok-imp_pos_drafts-in-ImpPos.ensures

pub returns-in_ok-imp_neg_drafts-in-ImpNeg-clause-drafted : goal.returns-in_ok-imp_neg_drafts-in-ImpNeg-clause-drafted
returns-in_ok-imp_neg_drafts-in-ImpNeg-clause-drafted c = one_by c.args.bank.now c.args.lits.now c.args.rule c.args.lit c.principal_of-p.result ImpNeg c.in_ok-imp_neg_drafts-in-ImpNeg.field-0 c.in-ImpNeg.is c.principal_of-p.ensures.is c.in_ok-imp_neg_drafts-in-ImpNeg.ensures

pub returns-in_ok-bool_pos_drafts-in-BoolPos-clause-drafted : goal.returns-in_ok-bool_pos_drafts-in-BoolPos-clause-drafted
returns-in_ok-bool_pos_drafts-in-BoolPos-clause-drafted c = one_by c.args.bank.now c.args.lits.now c.args.rule c.args.lit c.principal_of-p.result BoolPos c.in_ok-bool_pos_drafts-in-BoolPos.field-0 c.in-BoolPos.is c.principal_of-p.ensures.is c.in_ok-bool_pos_drafts-in-BoolPos.ensures

pub returns-in_ok-bool_neg_drafts-in-BoolNeg-clause-drafted : goal.returns-in_ok-bool_neg_drafts-in-BoolNeg-clause-drafted
returns-in_ok-bool_neg_drafts-in-BoolNeg-clause-drafted c = one_by c.args.bank.now c.args.lits.now c.args.rule c.args.lit c.principal_of-p.result BoolNeg c.in_ok-bool_neg_drafts-in-BoolNeg.field-0 c.in-BoolNeg.is c.principal_of-p.ensures.is c.in_ok-bool_neg_drafts-in-BoolNeg.ensures

pub returns-in_ok-fun_pos_drafts-in-FunPos-clause-drafted : goal.returns-in_ok-fun_pos_drafts-in-FunPos-clause-drafted
returns-in_ok-fun_pos_drafts-in-FunPos-clause-drafted c =
    let d = c.fun_pos_drafts.new.bank in
    one_by d c.args.lits.now c.args.rule c.args.lit c.principal_of-p.result FunPos c.in_ok-fun_pos_drafts-in-FunPos.field-0 c.in-FunPos.is
    (principal_now c.args.bank.now d c.args.lits.now c.args.lit c.principal_of-p.result c.fun_pos_drafts.ensures.grows c.requires.atoms c.requires.number c.principal_of-p.ensures.principal c.principal_of-p.ensures.is)
    c.in_ok-fun_pos_drafts-in-FunPos.ensures.drafted

pub returns-in_ok-fun_neg_drafts-in-FunNeg-clause-drafted : goal.returns-in_ok-fun_neg_drafts-in-FunNeg-clause-drafted
returns-in_ok-fun_neg_drafts-in-FunNeg-clause-drafted c =
    let d = c.fun_neg_drafts.new.bank in
    one_by d c.args.lits.now c.args.rule c.args.lit c.principal_of-p.result FunNeg c.in_ok-fun_neg_drafts-in-FunNeg.field-0 c.in-FunNeg.is
    (principal_now c.args.bank.now d c.args.lits.now c.args.lit c.principal_of-p.result c.fun_neg_drafts.ensures.grows c.requires.atoms c.requires.number c.principal_of-p.ensures.principal c.principal_of-p.ensures.is)
    c.in_ok-fun_neg_drafts-in-FunNeg.ensures.drafted

pub returns-in_ok-dec_drafts-in-Dec-clause-drafted : goal.returns-in_ok-dec_drafts-in-Dec-clause-drafted
returns-in_ok-dec_drafts-in-Dec-clause-drafted c =
    let d = c.dec_drafts.new.bank in
    one_by d c.args.lits.now c.args.rule c.args.lit c.principal_of-p.result Dec c.in_ok-dec_drafts-in-Dec.field-0 c.in-Dec.is
    (principal_now c.args.bank.now d c.args.lits.now c.args.lit c.principal_of-p.result c.dec_drafts.ensures.grows c.requires.atoms c.requires.number c.principal_of-p.ensures.principal c.principal_of-p.ensures.is)
    c.in_ok-dec_drafts-in-Dec.ensures.drafted
