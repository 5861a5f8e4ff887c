-- The causes of what doesn't hang on contents.
use Rattle.std.specs.Prelude.{◌≡◌, ℕ, List, Option, Some, None, slice_get}
use Rattle.stt_core.specs.PlainProblem.{PlainProblem}
use Rattle.outside.specs.Causes.{Rose}
use Rattle.outside.specs.Seen.{Seen}
use Rattle.thf_include.specs.Gathering.{stopped, wants}
use Rattle.cli_words.specs.Requests.{Request, refutation, generated, asked_by}
use Rattle.cli_words.specs.declared.Cuts.{Cuts}
use Rattle.szs_report.specs.declared.outcome.FileRef.TheVariants as reference
use Rattle.szs_report.specs.declared.outcome.Outcome.{Outcome}
use Rattle.szs_report.specs.declared.outcome.Outcome.TheVariants as ended
use Rattle.request_answers.specs.Requested.{problem_name, mode_file, schedule_file, seen_of}
use Rattle.request_answers.specs.Files.{OfFiles, Statements}

-- File number k of the problem of this name was to be read next, and the count of faults of its name rose.
pub record IsFaultIn (name : List ℕ) (seen : Seen) (before now : List ℕ → ℕ) (k : ℕ) : Type 0 where
  pub names : List (List ℕ)
  pub file : List ℕ
  pub named : slice_get names k ≡ Some file
  pub wanted : OfFiles name seen names (λ ending. ending ≡ stopped (wants k))
  pub rose : Rose (before file) (now file)

-- so it was with the problem of a request; a generated problem is read without a fault
abbrev pub IsFaultOf : Request → Seen → (List ℕ → ℕ) → (List ℕ → ℕ) → ℕ → Type 0
IsFaultOf (generated n) seen before now k = ⊥
IsFaultOf r seen before now k = IsFaultIn (problem_name r) seen before now k

-- The mode's file was to be read, and the count of faults of its name rose.
pub record IsModeFault (r : Request) (before now : List ℕ → ℕ) : Type 0 where
  pub file : List ℕ
  pub named : mode_file r ≡ Some file
  pub rose : Rose (before file) (now file)

-- The schedule's file was to be read, and the count of faults of its name rose.
pub record IsScheduleFault (r : Request) (before now : List ℕ → ℕ) : Type 0 where
  pub file : List ℕ
  pub named : schedule_file r ≡ Some file
  pub rose : Rose (before file) (now file)

-- The problem's files state a problem, the text that is checked was to be read next, and the count of faults of its name rose.
pub record IsTextFault (r : Request) (seen : Seen) (before now : List ℕ → ℕ) : Type 0 where
  pub names : List (List ℕ)
  pub problem : PlainProblem
  pub stated : OfFiles (problem_name r) (seen_of seen r) names (Statements problem)
  pub file : List ℕ
  pub name : List ℕ
  pub cuts : Cuts
  pub asked : r ≡ refutation cuts file name
  pub rose : Rose (before file) (now file)

abbrev pub IsNoWriteFault : Outcome → Type 0
IsNoWriteFault ended.WriteFault = ⊥
IsNoWriteFault outcome = Unit {0}

-- The cause of an outcome: where it is that a file can't be read, the count of that file's name rose, and otherwise no count did.
abbrev pub HasCauseOf : Request → Seen → (List ℕ → ℕ) → (List ℕ → ℕ) → Outcome → Type 0
HasCauseOf r seen before now (ended.ReadFault (reference.Part k)) = IsFaultOf r seen before now k
HasCauseOf r seen before now (ended.ReadFault reference.Mode) = IsModeFault r before now
HasCauseOf r seen before now (ended.ReadFault reference.Schedule) = IsScheduleFault r before now
HasCauseOf r seen before now (ended.ReadFault reference.Check) = IsTextFault r seen before now
HasCauseOf r seen before now outcome = (file : List ℕ) → now file ≡ before file

-- where the words ask for nothing, no file is read
abbrev pub HasCauseAsked : Option Request → Seen → (List ℕ → ℕ) → (List ℕ → ℕ) → Outcome → Type 0
HasCauseAsked None seen before now outcome = (file : List ℕ) → now file ≡ before file
HasCauseAsked (Some r) seen before now outcome = HasCauseOf r seen before now outcome

abbrev pub HasCause : List (List ℕ) → Seen → (List ℕ → ℕ) → (List ℕ → ℕ) → Outcome → Type 0
HasCause words seen before now outcome = HasCauseAsked (asked_by words) seen before now outcome
