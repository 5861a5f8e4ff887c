-- The files of a problem, and what they state.
use Rattle.std.specs.Prelude.{◌≡◌, ℕ, IsTrue, List, Option, Some, None, Ok}
use Rattle.outside.specs.Seen.{Seen}
use Rattle.stt_core.specs.PlainProblem.{PlainProblem}
use Rattle.thf_include.specs.View.{PlacedTree}
use Rattle.thf_include.specs.Gathering.{Ending, done, IsGathering}
use Rattle.thf_include.specs.Answer.{AreContents}
use Rattle.type_check.specs.Statements.{problem_of}
use Rattle.cli_words.specs.Requests.{Request, asked_by}
use Rattle.request_answers.specs.Requested.{problem_name, seen_of}

-- The gathering of the files of the problem of this name, in which files of these names are opened, in order, comes to an ending with this
-- property. The texts of the files are those that are told, where they are told.
pub record OfFiles (name : List ℕ) (seen : Seen) (names : List (List ℕ)) (P : Ending → Type 0) : Type 0 where
  pub texts : List (List ℕ)
  pub told_texts : IsTrue seen.tells → AreContents seen.contents names texts
  pub ending : Ending
  pub gathers : IsGathering texts name names ending
  pub holds : P ending

-- the gathering of the problem's files that is asked for
abbrev pub OfAsked : Option Request → Seen → List (List ℕ) → (Ending → Type 0) → Type 0
OfAsked None seen names P = ⊥
OfAsked (Some r) seen names P = OfFiles (problem_name r) (seen_of seen r) names P

-- the problem's files state this problem
pub record Statements (p : PlainProblem) (ending : Ending) : Type 0 where
  pub statements : List PlacedTree
  pub gathered : ending ≡ done statements
  pub read : problem_of statements ≡ Ok p

-- the files of the problem that the words name state this problem
abbrev pub StatesProblem : List (List ℕ) → Seen → List (List ℕ) → PlainProblem → Type 0
StatesProblem words seen names p = OfAsked (asked_by words) seen names (Statements p)
