-- What the refusals say.
use Rattle.std.specs.Prelude.{ℕ, List}
use Rattle.mode_file.specs.declared.refused.Cause.TheVariants as cause
use Rattle.mode_file.specs.declared.refused.ModeRefused.{ModeRefused}
use Rattle.mode_file.specs.declared.refused.ModeRefused.TheVariants.{UnknownKey, Twice, BadNumber, OutOfRange}
use Rattle.mode_file.specs.Grammar.{IsFirstBad}

-- the lines' first bad one, and why it is bad, are those of the refusal
abbrev pub Refuses : List (List ℕ) → ModeRefused → Type 0
Refuses lines (UnknownKey line) = IsFirstBad lines line cause.UnknownKey
Refuses lines (Twice line) = IsFirstBad lines line cause.Twice
Refuses lines (BadNumber line) = IsFirstBad lines line cause.BadNumber
Refuses lines (OutOfRange line) = IsFirstBad lines line cause.OutOfRange
