use Rattle.delta_defs.specs.Unfolding.{unfolded_problem}
use Rattle.prover_run.proofs.LearningLaws.{propagates-without_budget, spent-first, spent-before}
use Rattle.satallax_top.proofs.law.conflicts_of_a_proof.Goals as goal

pub returns-clause-propagated : goal.returns-clause-propagated
returns-clause-propagated c = λ words seen outcome written report none. propagates-without_budget (unfolded_problem report.problem) report.mode report.commands report.rebuilt report.refuted none

pub returns-clause-no_later : goal.returns-clause-no_later
returns-clause-no_later c = λ words seen outcome written conflicts report spent. spent-first (unfolded_problem report.problem) report.mode report.commands conflicts report.rebuilt spent report.refuted

pub returns-clause-earlier : goal.returns-clause-earlier
returns-clause-earlier c = λ words seen outcome written conflicts report spent among. spent-before (unfolded_problem report.problem) report.mode report.commands conflicts report.rebuilt spent report.refuted among
