use Rattle.sat_log.proofs.ChainLaws.{IsLogOver-append}
use Rattle.sat_log.proofs.law.appended_clauses_law.Goals as goal

pub returns : goal.returns
returns c = IsLogOver-append
