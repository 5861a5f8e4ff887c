use Rattle.sat_log.proofs.PropagationLaws.{implied_by_propagation, unsat_by_propagation}
use Rattle.sat_log.proofs.law.unit_propagation_law.Goals as goal

pub returns-clause-implied : goal.returns-clause-implied
returns-clause-implied c = implied_by_propagation

pub returns-clause-unsatisfiable : goal.returns-clause-unsatisfiable
returns-clause-unsatisfiable c = unsat_by_propagation
