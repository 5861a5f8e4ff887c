use Rattle.sat_laws.proofs.TrailLaws.{trail_reaches_false, failing_decisions}
use Rattle.sat_laws.proofs.law.forced_trail_law.Goals as goal

pub returns-clause-falsified : goal.returns-clause-falsified
returns-clause-falsified c = trail_reaches_false

pub returns-clause-fails : goal.returns-clause-fails
returns-clause-fails c = failing_decisions
