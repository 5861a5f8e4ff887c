use Rattle.tableau_rules.proofs.SpineDrafts.{mat_found}
use Rattle.tableau_rules.proofs.spine.mat_drafts.Goals as goal

pub returns-clause-drafted : goal.returns-clause-drafted
returns-clause-drafted c = λ rows.
    mat_found c.args.bank.now c.compared_drafts.new.bank rows c.compared_drafts.ensures.grows c.args.p c.requires.first c.args.q c.requires.second c.if-not-p.false c.if-q.false c.in_ok-compared_drafts.field-0 c.in_ok-compared_drafts.ensures.compared
