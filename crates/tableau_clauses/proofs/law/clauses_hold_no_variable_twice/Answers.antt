use Rattle.tableau_clauses.proofs.VariableLaws.{instance_variables}
use Rattle.tableau_clauses.proofs.law.clauses_hold_no_variable_twice.Goals as goal

pub returns : goal.returns
returns c = λ principals alternatives. instance_variables principals alternatives
