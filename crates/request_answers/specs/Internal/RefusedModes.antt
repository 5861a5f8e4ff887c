-- What is answered where a mode's file isn't read.
use Rattle.mode_file.specs.declared.refused.ModeRefused.{ModeRefused}
use Rattle.mode_file.specs.declared.refused.ModeRefused.TheVariants as refusal
use Rattle.szs_report.specs.declared.outcome.ModeWhy.TheVariants.{UnknownKey, Twice, BadNumber, OutOfRange}
use Rattle.szs_report.specs.declared.answer.Answer.{Answer}
use Rattle.szs_report.specs.declared.answer.Answer.TheVariants.{ModeAt}

-- what the refusal of a mode's file is answered with
abbrev pub mode_answer : ModeRefused → Answer
mode_answer (refusal.UnknownKey line) = ModeAt line UnknownKey
mode_answer (refusal.Twice line) = ModeAt line Twice
mode_answer (refusal.BadNumber line) = ModeAt line BadNumber
mode_answer (refusal.OutOfRange line) = ModeAt line OutOfRange
