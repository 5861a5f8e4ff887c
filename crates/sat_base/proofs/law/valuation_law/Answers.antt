use Rattle.sat_base.proofs.TruthLaws.{implied_true, not_unsat}
use Rattle.sat_base.proofs.law.valuation_law.Goals as goal

pub returns-clause-implied : goal.returns-clause-implied
returns-clause-implied c = implied_true

pub returns-clause-satisfiable : goal.returns-clause-satisfiable
returns-clause-satisfiable c = not_unsat
