use Rattle.tableau_rules.proofs.UseLaws.{cut_by}
use Rattle.tableau_rules.proofs.dispatch.cut.Goals as goal

pub returns : goal.returns
returns c = cut_by c.args.bank.now c.args.lits.now c.args.lit c.principal_of-p.result c.in_ok-cut_drafts.field-0 c.principal_of-p.ensures.is c.in_ok-cut_drafts.ensures
