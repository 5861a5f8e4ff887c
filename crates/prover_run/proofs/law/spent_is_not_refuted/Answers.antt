use Rattle.std.proofs.Common.{refl}
use Rattle.prover_run.proofs.LearningLaws.{spent-unrefuted, spent-first, spent-before}
use Rattle.prover_run.proofs.law.spent_is_not_refuted.Goals as goal

pub returns-clause-clauses : goal.returns-clause-clauses
returns-clause-clauses c = λ clauses conflicts budget spent refuted among. spent-unrefuted clauses clauses conflicts budget spent refuted refl among

pub returns-clause-no_later : goal.returns-clause-no_later
returns-clause-no_later c = spent-first

pub returns-clause-earlier : goal.returns-clause-earlier
returns-clause-earlier c = spent-before
