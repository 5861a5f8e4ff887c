use Rattle.search_spec.specs.Numbered.{numbers}
use Rattle.tableau_calculus.specs.Kinds.{formulas}
use Rattle.plain_tableau.proofs.OneLaws as laws
use Rattle.plain_tableau.proofs.law.one_expansion.Goals as goal

pub returns-clause-numbers : goal.returns-clause-numbers
returns-clause-numbers c = laws.one_expansion numbers

pub returns-clause-formulas : goal.returns-clause-formulas
returns-clause-formulas c = laws.one_expansion formulas
