use Rattle.sat_laws.proofs.WatchLaws.{kept_at, kept_now}
use Rattle.sat_laws.proofs.law.watched_law.Goals as goal

pub returns-clause-at_decisions : goal.returns-clause-at_decisions
returns-clause-at_decisions c = kept_at

pub returns-clause-now : goal.returns-clause-now
returns-clause-now c = kept_now
