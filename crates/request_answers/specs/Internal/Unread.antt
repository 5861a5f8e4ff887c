-- What is answered in place of a problem, a mode or a schedule that isn't read, and what is answered by files.
use Rattle.std.specs.Prelude.{◌≡◌, ℕ, Bool, true, false, List, Option, Some, None, Err}
use Rattle.stt_core.specs.PlainProblem.{PlainProblem}
use Rattle.thf_include.specs.View.{PlacedTree}
use Rattle.thf_include.specs.Gathering.{Ending, done, stopped}
use Rattle.type_check.specs.Statements.{IllInFile, problem_of}
use Rattle.outside.specs.Lines.{lines_of}
use Rattle.outside.specs.Seen.{Seen}
use Rattle.mode_file.specs.Refusals.{Refuses}
use Rattle.mode_schedule.specs.Refusals.{RefusesBlocks}
use Rattle.szs_report.specs.declared.answer.Answer.{Answer}
use Rattle.szs_report.specs.declared.answer.Answer.TheVariants.{Accepted, TypeAt, ModeAt, ScheduleAt, TooLong, ReadFault, Memory}
use Rattle.szs_report.specs.declared.answer.NamedFile.TheVariants.{Part, Mode, Schedule}
use Rattle.request_answers.specs.Files.{OfFiles}
use Rattle.request_answers.specs.NamedFiles.{OfFile, IsLongFile}
use Rattle.request_answers.specs.Modes.{refused_at}
use Rattle.request_answers.specs.Schedules.{refused_schedule_at}
use Rattle.request_answers.specs.Answers.{stop_answer, AnswersEnding}

-- the statements have no meaning, and are answered so
pub record IsIllAt (names : List (List ℕ)) (ss : List PlacedTree) (answer : Answer) : Type 0 where
  pub ill : IllInFile
  pub is : problem_of ss ≡ Err ill
  pub answered : answer ≡ TypeAt (Part ill.file names) ill.at ill.why

abbrev pub IsIllProblem : List (List ℕ) → List PlacedTree → Answer → Type 0
IsIllProblem names ss Memory = Unit {0}
IsIllProblem names ss answer = IsIllAt names ss answer

-- the ending of a gathering states no problem, and is answered so
abbrev pub IsUnstated : List (List ℕ) → Answer → Ending → Type 0
IsUnstated names answer (done ss) = IsIllAt names ss answer
IsUnstated names answer (stopped s) = answer ≡ stop_answer names s

-- the files of a problem state none, and are answered so, or memory ran out
abbrev pub IsUnread : List ℕ → Seen → Answer → Type 0
IsUnread name seen Memory = Unit {0}
IsUnread name seen answer = (names : List (List ℕ)) × OfFiles name seen names (IsUnstated names answer)

-- a mode's file states none, and is answered so, or memory ran out
abbrev pub IsUnreadMode : Seen → List ℕ → Answer → Type 0
IsUnreadMode seen file Memory = Unit {0}
IsUnreadMode seen file (ReadFault (Mode own)) = own ≡ file
IsUnreadMode seen file (TooLong (Mode own)) = (own ≡ file) × IsLongFile seen file
IsUnreadMode seen file (ModeAt line why) = OfFile seen file (λ bytes. Refuses (lines_of bytes) (refused_at why line))
IsUnreadMode seen file answer = ⊥

abbrev pub IsUnaskedMode : Seen → Option (List ℕ) → Answer → Type 0
IsUnaskedMode seen None answer = ⊥
IsUnaskedMode seen (Some file) answer = IsUnreadMode seen file answer

-- a schedule's file states none, and is answered so, or memory ran out
abbrev pub IsUnreadSchedule : Seen → List ℕ → Answer → Type 0
IsUnreadSchedule seen file Memory = Unit {0}
IsUnreadSchedule seen file (ReadFault (Schedule own)) = own ≡ file
IsUnreadSchedule seen file (TooLong (Schedule own)) = (own ≡ file) × IsLongFile seen file
IsUnreadSchedule seen file (ScheduleAt line why) = OfFile seen file (λ bytes. RefusesBlocks (lines_of bytes) (refused_schedule_at why line))
IsUnreadSchedule seen file answer = ⊥

-- the files of a problem are answered so, where the problem is answered as Answers says
abbrev pub IsFilesAnswer : (PlainProblem → Answer → Type 0) → List ℕ → Seen → Answer → Type 0
IsFilesAnswer Answers name seen Memory = Unit {0}
IsFilesAnswer Answers name seen answer = (names : List (List ℕ)) × OfFiles name seen names (AnswersEnding Answers names answer)

-- whether an answer is that a text is accepted; none where it is that memory ran out
abbrev pub verdict_of : Answer → Option Bool
verdict_of Memory = None
verdict_of Accepted = Some true
verdict_of answer = Some false
