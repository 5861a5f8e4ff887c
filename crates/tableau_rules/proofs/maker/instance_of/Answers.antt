use Rattle.tableau_rules.proofs.MadeLaws.{formulas_of, all_numbers, all_literals}
use Rattle.tableau_rules.proofs.maker.instance_of.Goals as goal

pub number_all-requires-clause-formulas : goal.number_all-requires-clause-formulas
number_all-requires-clause-formulas c = formulas_of c.args.bank.now c.args.lits.now c.args.by.now c.args.drafts.now c.sig-declared.ensures.declared c.requires.atoms c.requires.principals c.requires.drafts

pub returns-clause-numbers : goal.returns-clause-numbers
returns-clause-numbers c = all_numbers c.args.bank.now c.number_all.new.lits c.args.drafts.now c.in_ok-alternatives.alternatives c.in_ok-alternatives.ensures.numbered

pub returns-clause-alternatives : goal.returns-clause-alternatives
returns-clause-alternatives c = all_literals c.args.bank.now c.number_all.new.lits c.args.drafts.now c.in_ok-alternatives.alternatives c.in_ok-alternatives.ensures.numbered
