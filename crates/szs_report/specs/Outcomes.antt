-- The outcome of an answer.
use Rattle.std.specs.Prelude.{[]}
use Rattle.szs_report.specs.declared.answer.Answer.{Answer}
use Rattle.szs_report.specs.declared.answer.Answer.TheVariants.{Proved, GaveUp, CommandLimit, ConflictLimit, DemoDone, Accepted, Refused, CounterSatisfiable, Satisfiable, NoneSmall, ModelsTooMany, Same, Different, NoEquation, SyntaxAt, TypeAt, IncludeAt, ModeAt, ScheduleAt, Words, TooLong, ReadFault, Memory, UnreadWords}
use Rattle.szs_report.specs.declared.answer.Claim.{Claim}
use Rattle.szs_report.specs.declared.answer.Claim.TheVariants.{Theorem, Unsatisfiable}
use Rattle.szs_report.specs.declared.answer.TreeReport.TheVariants.{Unasked}
use Rattle.szs_report.specs.declared.answer.NamedFile.{NamedFile}
use Rattle.szs_report.specs.declared.answer.NamedFile.TheVariants.{Part, Mode, Schedule, Check}
use Rattle.szs_report.specs.declared.outcome.FileRef.{FileRef}
use Rattle.szs_report.specs.declared.outcome.FileRef.TheVariants as reference
use Rattle.szs_report.specs.declared.outcome.Outcome.{Outcome}
use Rattle.szs_report.specs.declared.outcome.Outcome.TheVariants as outcome

abbrev pub claim_outcome : Claim → Outcome
claim_outcome Theorem = outcome.Theorem
claim_outcome Unsatisfiable = outcome.Unsatisfiable

-- a file without its name
abbrev pub file_ref : NamedFile → FileRef
file_ref (Part k names) = reference.Part k
file_ref (Mode name) = reference.Mode
file_ref (Schedule name) = reference.Schedule
file_ref (Check name) = reference.Check

-- the outcome of a call that answers so and writes its report
abbrev pub outcome_of : Answer → Outcome
outcome_of (Proved claim n mode tree text) = claim_outcome claim
outcome_of (GaveUp n) = outcome.GaveUp
outcome_of (CommandLimit n) = outcome.CommandLimit n
outcome_of (ConflictLimit c) = outcome.ConflictLimit c
outcome_of (DemoDone claim n) = outcome.DemoDone
outcome_of Accepted = outcome.Accepted
outcome_of (Refused line why) = outcome.Refused line why
outcome_of (CounterSatisfiable s lines) = outcome.CounterSatisfiable s
outcome_of (Satisfiable s lines) = outcome.Satisfiable s
outcome_of (NoneSmall k) = outcome.NoneSmall k
outcome_of (ModelsTooMany s) = outcome.ModelsTooMany s
outcome_of Same = outcome.Same
outcome_of Different = outcome.Different
outcome_of NoEquation = outcome.NoEquation
outcome_of (SyntaxAt file at) = outcome.SyntaxAt (file_ref file) at
outcome_of (TypeAt file at why) = outcome.TypeAt (file_ref file) at why
outcome_of (IncludeAt file at why) = outcome.IncludeAt (file_ref file) at why
outcome_of (ModeAt line why) = outcome.ModeAt line why
outcome_of (ScheduleAt line why) = outcome.ScheduleAt line why
outcome_of Words = outcome.Words
outcome_of (TooLong file) = outcome.TooLong (file_ref file)
outcome_of (ReadFault file) = outcome.ReadFault (file_ref file)
outcome_of Memory = outcome.Memory
outcome_of UnreadWords = outcome.Memory

-- the answer with no text of a refutation in it, and no word of a tree
abbrev pub without_refutation : Answer → Answer
without_refutation (Proved claim n mode tree text) = Proved claim n mode Unasked []
without_refutation answer = answer
