use Rattle.sat_log.proofs.PropagationLaws.{IsNew-apart}
use Rattle.sat_log.proofs.law.new_clause_law.Goals as goal

pub returns : goal.returns
returns c = IsNew-apart
