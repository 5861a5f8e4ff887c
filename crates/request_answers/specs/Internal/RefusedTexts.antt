-- What is answered where a text isn't read or isn't accepted.
use Rattle.tableau_calculus.specs.declared.refutation.Why.TheVariants.{Form, Start, End}
use Rattle.refute_text.specs.declared.refusal.TextRefused.{TextRefused}
use Rattle.refute_text.specs.declared.refusal.TextRefused.TheVariants as unread
use Rattle.refute_text.specs.declared.refusal.TextRefused.TheVariants.{BadLine, NoStart, NoEnd}
use Rattle.refute_check.specs.declared.refusal.CheckRefused.{CheckRefused}
use Rattle.refute_check.specs.declared.refusal.CheckRefused.TheVariants as failed
use Rattle.refute_check.specs.declared.refusal.CheckRefused.TheVariants.{Line}
use Rattle.szs_report.specs.declared.answer.Answer.{Answer}
use Rattle.szs_report.specs.declared.answer.Answer.TheVariants.{Refused, Memory}

-- what a text that isn't read is answered with
abbrev pub unread_answer : TextRefused → Answer
unread_answer (BadLine line) = Refused line Form
unread_answer (NoStart line) = Refused line Start
unread_answer (NoEnd line) = Refused line End
unread_answer unread.Memory = Memory

-- what a refutation that isn't accepted is answered with
abbrev pub failed_answer : CheckRefused → Answer
failed_answer (Line line why) = Refused line why
failed_answer failed.Memory = Memory
