-- The schedule that a problem is proved by.
use Rattle.std.specs.Prelude.{ℕ, List, [], Option}
use Rattle.outside.specs.Seen.{Seen}
use Rattle.mode_schedule.specs.declared.Block.{Block}
use Rattle.mode_schedule.specs.declared.refused.ScheduleRefused.{ScheduleRefused}
use Rattle.mode_schedule.specs.declared.refused.ScheduleRefused.TheVariants as refusal
use Rattle.mode_schedule.specs.Grammar.{StatesBlocks}
use Rattle.mode_schedule.specs.Refusals.{RefusesBlocks}
use Rattle.szs_report.specs.declared.outcome.ScheduleWhy.{ScheduleWhy}
use Rattle.szs_report.specs.declared.outcome.ScheduleWhy.TheVariants.{UnknownKey, Twice, BadNumber, OutOfRange, NoSlice, TooManyBlocks}
use Rattle.request_answers.specs.NamedFiles.{IsStatedBy, IsRefusedBy}

-- the blocks that a file states, or none where no file is named
abbrev pub IsScheduleBy : Seen → Option (List ℕ) → List Block → Type 0
IsScheduleBy seen file blocks = IsStatedBy StatesBlocks [] seen file blocks

-- the refusal of a schedule's line, for a cause
abbrev pub refused_schedule_at : ScheduleWhy → ℕ → ScheduleRefused
refused_schedule_at UnknownKey line = refusal.UnknownKey line
refused_schedule_at Twice line = refusal.Twice line
refused_schedule_at BadNumber line = refusal.BadNumber line
refused_schedule_at OutOfRange line = refusal.OutOfRange line
refused_schedule_at NoSlice line = refusal.NoSlice line
refused_schedule_at TooManyBlocks line = refusal.TooManyBlocks line

-- a file is named, and this line of it is the first bad one, for this cause
abbrev pub IsBadSchedule : Seen → Option (List ℕ) → ℕ → ScheduleWhy → Type 0
IsBadSchedule seen file line why = IsRefusedBy RefusesBlocks seen file (refused_schedule_at why line)
