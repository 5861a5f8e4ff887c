-- What is answered where files aren't gathered.
use Rattle.std.specs.Prelude.{ℕ, List}
use Rattle.thf_include.specs.declared.refused.GatherRefused.{GatherRefused}
use Rattle.thf_include.specs.declared.refused.GatherRefused.TheVariants as refusal
use Rattle.thf_include.specs.declared.refused.GatherRefused.TheVariants.{Fault, Syntax}
use Rattle.szs_report.specs.declared.answer.Answer.{Answer}
use Rattle.szs_report.specs.declared.answer.Answer.TheVariants.{SyntaxAt, IncludeAt, TooLong, ReadFault, Memory}
use Rattle.szs_report.specs.declared.answer.NamedFile.TheVariants.{Part}
use Rattle.szs_report.specs.declared.outcome.IncludeWhy.TheVariants.{Cycle, NoSuchName, TooMany}

-- what a refusal to gather is answered with
abbrev pub refused_answer : List (List ℕ) → GatherRefused → Answer
refused_answer names (Fault file) = ReadFault (Part file names)
refused_answer names (refusal.TooLong file) = TooLong (Part file names)
refused_answer names (Syntax file at) = SyntaxAt (Part file names) at
refused_answer names (refusal.Cycle file at) = IncludeAt (Part file names) at Cycle
refused_answer names (refusal.NoSuchName file at) = IncludeAt (Part file names) at NoSuchName
refused_answer names (refusal.TooMany file at) = IncludeAt (Part file names) at TooMany
refused_answer names refusal.Memory = Memory
