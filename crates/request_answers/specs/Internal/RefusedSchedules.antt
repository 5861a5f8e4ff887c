-- What is answered where a schedule's file isn't read.
use Rattle.mode_schedule.specs.declared.refused.ScheduleRefused.{ScheduleRefused}
use Rattle.mode_schedule.specs.declared.refused.ScheduleRefused.TheVariants as refusal
use Rattle.szs_report.specs.declared.outcome.ScheduleWhy.TheVariants.{UnknownKey, Twice, BadNumber, OutOfRange, NoSlice, TooManyBlocks}
use Rattle.szs_report.specs.declared.answer.Answer.{Answer}
use Rattle.szs_report.specs.declared.answer.Answer.TheVariants.{ScheduleAt, Memory}

-- what the refusal of a schedule's file is answered with
abbrev pub schedule_answer : ScheduleRefused → Answer
schedule_answer (refusal.UnknownKey line) = ScheduleAt line UnknownKey
schedule_answer (refusal.NoSlice line) = ScheduleAt line NoSlice
schedule_answer (refusal.TooManyBlocks line) = ScheduleAt line TooManyBlocks
schedule_answer (refusal.Twice line) = ScheduleAt line Twice
schedule_answer (refusal.BadNumber line) = ScheduleAt line BadNumber
schedule_answer (refusal.OutOfRange line) = ScheduleAt line OutOfRange
schedule_answer refusal.Memory = Memory
