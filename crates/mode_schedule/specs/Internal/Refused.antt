-- Refusals by lines and causes.
use Rattle.std.specs.Prelude.{◌≡◌, ℕ, List, None, IsSome}
use Rattle.mode_file.specs.Keys.{key_of}
use Rattle.mode_file.specs.Grammar.{first_word}
use Rattle.mode_file.specs.declared.refused.ModeRefused.{ModeRefused}
use Rattle.mode_file.specs.declared.refused.ModeRefused.TheVariants as mode
use Rattle.mode_schedule.specs.declared.Block.{Block}
use Rattle.mode_schedule.specs.declared.refused.Cause.{Cause}
use Rattle.mode_schedule.specs.declared.refused.Cause.TheVariants.{UnknownKey, NoSlice, TooManyBlocks, Twice, BadNumber, OutOfRange}
use Rattle.mode_schedule.specs.declared.refused.ScheduleRefused.{ScheduleRefused}
use Rattle.mode_schedule.specs.declared.refused.ScheduleRefused.TheVariants as refused
use Rattle.mode_schedule.specs.Grammar.{IsTooMany, HasNoSlice, IsOutOfSlices}

-- the parts of a refusal of a mode's line
abbrev pub bad_line_of : ModeRefused → ℕ
bad_line_of (mode.UnknownKey line) = line
bad_line_of (mode.Twice line) = line
bad_line_of (mode.BadNumber line) = line
bad_line_of (mode.OutOfRange line) = line

abbrev pub cause_of : ModeRefused → Cause
cause_of (mode.UnknownKey line) = UnknownKey
cause_of (mode.Twice line) = Twice
cause_of (mode.BadNumber line) = BadNumber
cause_of (mode.OutOfRange line) = OutOfRange

-- the refusal of a line for a cause
abbrev pub schedule_refused_at : ℕ → Cause → ScheduleRefused
schedule_refused_at line UnknownKey = refused.UnknownKey line
schedule_refused_at line NoSlice = refused.NoSlice line
schedule_refused_at line TooManyBlocks = refused.TooManyBlocks line
schedule_refused_at line Twice = refused.Twice line
schedule_refused_at line BadNumber = refused.BadNumber line
schedule_refused_at line OutOfRange = refused.OutOfRange line

-- why a line of a slice is bad behind these blocks
abbrev pub IsBadSliceFor : List Block → List ℕ → Cause → Type 0
IsBadSliceFor blocks line TooManyBlocks = IsTooMany line blocks
IsBadSliceFor blocks line BadNumber = HasNoSlice line blocks
IsBadSliceFor blocks line OutOfRange = IsOutOfSlices line blocks
IsBadSliceFor blocks line cause = ⊥

-- why a line before all blocks is bad
abbrev pub IsBadFirst : List ℕ → Cause → Type 0
IsBadFirst line UnknownKey = key_of (first_word line) ≡ None
IsBadFirst line NoSlice = IsSome (key_of (first_word line))
IsBadFirst line cause = ⊥
