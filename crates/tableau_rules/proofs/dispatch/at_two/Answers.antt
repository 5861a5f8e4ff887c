use Rattle.tableau_calculus.specs.declared.rule_use.TwoPlaces.TheVariants.{Close, Mat, Con}
use Rattle.tableau_rules.proofs.UseLaws.{principal_now, two_by}
use Rattle.tableau_rules.proofs.dispatch.at_two.Goals as goal

pub returns-in-Close-clause-drafted : goal.returns-in-Close-clause-drafted
returns-in-Close-clause-drafted c =
    two_by c.args.bank.now c.args.lits.now c.args.rule c.args.first c.args.second c.principal_of-p.result c.principal_of-q.result Close c.close_drafts.result c.in-Close.is c.principal_of-p.ensures.is c.principal_of-q.ensures.is c.close_drafts.ensures

pub returns-in_ok-mat_drafts-in-Mat-clause-drafted : goal.returns-in_ok-mat_drafts-in-Mat-clause-drafted
returns-in_ok-mat_drafts-in-Mat-clause-drafted c =
    let d = c.mat_drafts.new.bank in
    let g = c.mat_drafts.ensures.grows in
    two_by d c.args.lits.now c.args.rule c.args.first c.args.second c.principal_of-p.result c.principal_of-q.result Mat c.in_ok-mat_drafts-in-Mat.field-0 c.in-Mat.is
    (principal_now c.args.bank.now d c.args.lits.now c.args.first c.principal_of-p.result g c.requires.atoms c.requires.first c.principal_of-p.ensures.principal c.principal_of-p.ensures.is)
    (principal_now c.args.bank.now d c.args.lits.now c.args.second c.principal_of-q.result g c.requires.atoms c.requires.second c.principal_of-q.ensures.principal c.principal_of-q.ensures.is)
    c.in_ok-mat_drafts-in-Mat.ensures.drafted

pub returns-in_ok-con_drafts-in-Con-clause-drafted : goal.returns-in_ok-con_drafts-in-Con-clause-drafted
returns-in_ok-con_drafts-in-Con-clause-drafted c =
    let d = c.con_drafts.new.bank in
    let g = c.con_drafts.ensures.grows in
    two_by d c.args.lits.now c.args.rule c.args.first c.args.second c.principal_of-p.result c.principal_of-q.result Con c.in_ok-con_drafts-in-Con.field-0 c.in-Con.is
    (principal_now c.args.bank.now d c.args.lits.now c.args.first c.principal_of-p.result g c.requires.atoms c.requires.first c.principal_of-p.ensures.principal c.principal_of-p.ensures.is)
    (principal_now c.args.bank.now d c.args.lits.now c.args.second c.principal_of-q.result g c.requires.atoms c.requires.second c.principal_of-q.ensures.principal c.principal_of-q.ensures.is)
    c.in_ok-con_drafts-in-Con.ensures.drafted
