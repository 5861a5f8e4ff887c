use Rattle.sat_laws.proofs.CountLaws.{clause_count}
use Rattle.sat_laws.proofs.law.clause_count_law.Goals as goal

pub returns : goal.returns
returns c = clause_count
