use Rattle.sat_base.proofs.TruthLaws.{empty_from_unsat, unsat_from_empty}
use Rattle.sat_base.proofs.law.empty_clause_law.Goals as goal

pub returns : goal.returns
returns c = λ clauses. (empty_from_unsat clauses, unsat_from_empty clauses)
