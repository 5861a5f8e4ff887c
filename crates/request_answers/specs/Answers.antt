-- What a call answers.
use Rattle.std.specs.Prelude.{◌≡◌, ℕ, true, List, Option, Some, None, Result, Ok, Err}
use Rattle.outside.specs.Seen.{Seen}
use Rattle.stt_core.specs.PlainProblem.{PlainProblem}
use Rattle.thf_include.specs.Gathering.{Ending, done, stopped, Stop, wants, too_long, no_tree, cycle, too_many, no_name}
use Rattle.type_check.specs.Statements.{IllInFile, problem_of}
use Rattle.mode_file.specs.declared.Mode.{Mode}
use Rattle.mode_schedule.specs.declared.Block.{Block}
use Rattle.cli_words.specs.Requests.{Request, prove, by_schedule, refutation, generated, models, sides, asked_by}
use Rattle.szs_report.specs.Outcomes.{outcome_of}
use Rattle.szs_report.specs.declared.answer.Answer.{Answer}
use Rattle.szs_report.specs.declared.answer.Answer.TheVariants.{ConflictLimit, SyntaxAt, TypeAt, IncludeAt, ModeAt, ScheduleAt, Words, TooLong, ReadFault, Memory, UnreadWords}
use Rattle.szs_report.specs.declared.answer.NamedFile.TheVariants.{Part}
use Rattle.szs_report.specs.declared.answer.NamedFile.TheVariants as named
use Rattle.szs_report.specs.declared.outcome.IncludeWhy.TheVariants.{Cycle, NoSuchName, TooMany}
use Rattle.szs_report.specs.declared.outcome.Outcome.{Outcome}
use Rattle.szs_report.specs.declared.outcome.Outcome.TheVariants as ended
use Rattle.request_answers.specs.Requested.{problem_name, mode_file, schedule_file, seen_of}
use Rattle.request_answers.specs.Files.{OfFiles}
use Rattle.request_answers.specs.NamedFiles.{IsLongFile}
use Rattle.request_answers.specs.Modes.{IsModeBy, IsBadMode}
use Rattle.request_answers.specs.Schedules.{IsScheduleBy, IsBadSchedule}
use Rattle.request_answers.specs.Checked.{AnswersText}
use Rattle.request_answers.specs.Compared.{AnswersSides}
use Rattle.request_answers.specs.Modelled.{AnswersModels}
use Rattle.request_answers.specs.Solved.{IsSolved, IsSolvedInTurns, IsDemoed}

-- what the stop of a gathering is answered with, where files of these names were opened
abbrev pub stop_answer : List (List ℕ) → Stop → Answer
stop_answer names (wants file) = ReadFault (Part file names)
stop_answer names (too_long file) = TooLong (Part file names)
stop_answer names (no_tree file at) = SyntaxAt (Part file names) at
stop_answer names (cycle file at) = IncludeAt (Part file names) at Cycle
stop_answer names (too_many file at) = IncludeAt (Part file names) at TooMany
stop_answer names (no_name file at) = IncludeAt (Part file names) at NoSuchName

-- what the problem that is asked for is answered with, once it is read and where this is the mode and these are the blocks of the schedule
abbrev pub AnswersProblem : Seen → Request → Mode → List Block → PlainProblem → Answer → Type 0
AnswersProblem seen (prove p mode nodes) m bs = IsSolved nodes m
AnswersProblem seen (by_schedule file p) m bs = IsSolvedInTurns bs
AnswersProblem seen (refutation cuts text p) m bs = AnswersText cuts seen text
AnswersProblem seen (generated n) m bs = IsDemoed m
AnswersProblem seen (models upto p) m bs = AnswersModels upto
AnswersProblem seen (sides p) m bs = AnswersSides

-- what statements are answered with that state a problem, or have no meaning; problems are answered as Answers says
abbrev pub AnswersStated : (PlainProblem → Answer → Type 0) → List (List ℕ) → Answer → Result PlainProblem IllInFile → Type 0
AnswersStated Answers names answer (Ok p) = Answers p answer
AnswersStated Answers names answer (Err ill) = answer ≡ TypeAt (Part ill.file names) ill.at ill.why

-- what the ending of a gathering is answered with, where files of these names were opened
abbrev pub AnswersEnding : (PlainProblem → Answer → Type 0) → List (List ℕ) → Answer → Ending → Type 0
AnswersEnding Answers names answer (done ss) = AnswersStated Answers names answer (problem_of ss)
AnswersEnding Answers names answer (stopped s) = answer ≡ stop_answer names s

-- what is answered where the mode is this one, or none that is read, and so are the blocks of the schedule
pub record AnswersFiles (r : Request) (seen : Seen) (answer : Answer) : Type 0 where
  pub mode : Mode
  pub is_mode : IsModeBy seen (mode_file r) mode
  pub blocks : List Block
  pub are_blocks : IsScheduleBy seen (schedule_file r) blocks
  pub names : List (List ℕ)
  pub files : OfFiles (problem_name r) (seen_of seen r) names (AnswersEnding (AnswersProblem seen r mode blocks) names answer)

-- What a request is answered with: the file of the mode or of the schedule comes first, then the problem's files, then what they state.
-- Memory may run out anywhere.
abbrev pub AnswersRequest : Request → Seen → Answer → Type 0
AnswersRequest r seen Memory = Unit {0}
AnswersRequest r seen (ReadFault (named.Mode file)) = mode_file r ≡ Some file
AnswersRequest r seen (TooLong (named.Mode file)) = (mode_file r ≡ Some file) × IsLongFile seen file
AnswersRequest r seen (ModeAt line why) = IsBadMode seen (mode_file r) line why
AnswersRequest r seen (ReadFault (named.Schedule file)) = schedule_file r ≡ Some file
AnswersRequest r seen (TooLong (named.Schedule file)) = (schedule_file r ≡ Some file) × IsLongFile seen file
AnswersRequest r seen (ScheduleAt line why) = IsBadSchedule seen (schedule_file r) line why
AnswersRequest r seen answer = AnswersFiles r seen answer

-- what is answered to a request, or where the words are none
abbrev pub AnswersAsked : Option Request → Seen → Answer → Type 0
AnswersAsked o seen UnreadWords = Unit {0}
AnswersAsked None seen answer = answer ≡ Words
AnswersAsked (Some r) seen answer = AnswersRequest r seen answer

-- What a call answers with these words and contents.
abbrev pub IsAnswer : List (List ℕ) → Seen → Answer → Type 0
IsAnswer words seen answer = AnswersAsked (asked_by words) seen answer

-- it is answered neither that a file can't be read, nor that memory ran out, nor that the conflicts are spent
abbrev pub IsSettled : Answer → Type 0
IsSettled (ReadFault file) = ⊥
IsSettled Memory = ⊥
IsSettled UnreadWords = ⊥
IsSettled (ConflictLimit conflicts) = ⊥
IsSettled answer = Unit {0}

-- the defined answer to these words over these contents
abbrev pub Defined : List (List ℕ) → (List ℕ → Option (List ℕ)) → Answer → Type 0
Defined words contents answer = IsSettled answer × IsAnswer words (record { tells = true; contents = contents }) answer

-- The outcome is that of the defined answer to these words over these contents, or memory ran out, or the conflicts were spent.
abbrev pub IsDefined : List (List ℕ) → (List ℕ → Option (List ℕ)) → Outcome → Type 0
IsDefined words contents ended.Memory = Unit {0}
IsDefined words contents (ended.ConflictLimit conflicts) = Unit {0}
IsDefined words contents outcome = (answer : Answer) × Defined words contents answer × (outcome ≡ outcome_of answer)
