use Rattle.sat_log.proofs.Implied.{results_implied}
use Rattle.sat_log.proofs.law.implied_results_law.Goals as goal

pub returns : goal.returns
returns c = results_implied
