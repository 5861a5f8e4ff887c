use Rattle.mode_schedule.proofs.SpendLaws.{spent_runs, spent_before_closed, second_spends_nothing}
use Rattle.mode_schedule.proofs.law.spent_in_turn.Goals as goal

pub returns : goal.returns
returns c = record { alone = spent_runs; before = spent_before_closed; example = second_spends_nothing }
