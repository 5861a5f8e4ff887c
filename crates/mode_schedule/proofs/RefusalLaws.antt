-- Refusals of lines.
use Rattle.std.proofs.Common.{◌≡◌, inr, ℕ, List, refl}
use Rattle.mode_file.specs.declared.refused.ModeRefused.{ModeRefused}
use Rattle.mode_file.specs.declared.refused.ModeRefused.TheVariants as mode
use Rattle.mode_schedule.specs.Grammar.{IsBadInBlock}
use Rattle.mode_schedule.specs.Refusals.{RefusesBlocks}
use Rattle.mode_schedule.specs.Internal.Refused.{bad_line_of, cause_of, schedule_refused_at}

-- a refusal within a block
pub refuses_body : (lines : List (List ℕ)) (number : ℕ) (r : ModeRefused) → ((make : ℕ → ModeRefused) → r ≡ make (bad_line_of r) → IsBadInBlock lines number make) → RefusesBlocks lines (schedule_refused_at number (cause_of r))
refuses_body lines number (mode.UnknownKey line) h = inr (h mode.UnknownKey refl)
refuses_body lines number (mode.Twice line) h = h mode.Twice refl
refuses_body lines number (mode.BadNumber line) h = inr (h mode.BadNumber refl)
refuses_body lines number (mode.OutOfRange line) h = inr (h mode.OutOfRange refl)
