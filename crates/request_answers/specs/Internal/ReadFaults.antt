-- Answers that are no faults of reading.
use Rattle.szs_report.specs.declared.answer.Answer.{Answer}
use Rattle.szs_report.specs.declared.answer.Answer.TheVariants.{ReadFault}

-- it isn't answered that a file can't be read
abbrev pub IsNoReadFault : Answer → Type 0
IsNoReadFault (ReadFault file) = ⊥
IsNoReadFault answer = Unit {0}
