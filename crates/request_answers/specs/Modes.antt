-- The mode that a problem is proved by.
use Rattle.std.specs.Prelude.{ℕ, List, Option}
use Rattle.outside.specs.Seen.{Seen}
use Rattle.mode_file.specs.declared.Mode.{Mode}
use Rattle.mode_file.specs.declared.refused.ModeRefused.{ModeRefused}
use Rattle.mode_file.specs.declared.refused.ModeRefused.TheVariants as refusal
use Rattle.mode_file.specs.Given.{nothing_given, mode_of}
use Rattle.mode_file.specs.Grammar.{States}
use Rattle.mode_file.specs.Refusals.{Refuses}
use Rattle.szs_report.specs.declared.outcome.ModeWhy.{ModeWhy}
use Rattle.szs_report.specs.declared.outcome.ModeWhy.TheVariants.{UnknownKey, Twice, BadNumber, OutOfRange}
use Rattle.request_answers.specs.NamedFiles.{IsStatedBy, IsRefusedBy}

-- the mode that a file states, or the standard one where no file is named
abbrev pub IsModeBy : Seen → Option (List ℕ) → Mode → Type 0
IsModeBy seen file mode = IsStatedBy States (mode_of nothing_given) seen file mode

-- the refusal of a line, for a cause
abbrev pub refused_at : ModeWhy → ℕ → ModeRefused
refused_at UnknownKey line = refusal.UnknownKey line
refused_at Twice line = refusal.Twice line
refused_at BadNumber line = refusal.BadNumber line
refused_at OutOfRange line = refusal.OutOfRange line

-- a file is named, and this line of it is the first bad one, for this cause
abbrev pub IsBadMode : Seen → Option (List ℕ) → ℕ → ModeWhy → Type 0
IsBadMode seen file line why = IsRefusedBy Refuses seen file (refused_at why line)
