use Rattle.prover_run.proofs.EnoughLaws.{never-spent, never-ends}
use Rattle.prover_run.proofs.law.enough_conflicts.Goals as goal

pub returns-clause-clauses : goal.returns-clause-clauses
returns-clause-clauses c = never-spent

pub returns-clause-run : goal.returns-clause-run
returns-clause-run c = never-ends
