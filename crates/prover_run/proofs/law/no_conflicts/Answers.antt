use Rattle.prover_run.proofs.LearningLaws.{learned-filled, propagates-at_once, propagates-without_budget}
use Rattle.prover_run.proofs.law.no_conflicts.Goals as goal

pub returns-clause-not_empty : goal.returns-clause-not_empty
returns-clause-not_empty c = learned-filled

pub returns-clause-clauses : goal.returns-clause-clauses
returns-clause-clauses c = propagates-at_once

pub returns-clause-run : goal.returns-clause-run
returns-clause-run c = propagates-without_budget
