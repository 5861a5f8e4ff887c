-- What is reported of finite models means what it says.
use Rattle.std.specs.Prelude.{◌≡◌, ◌<◌, ◌≤◌, ℕ, List, Option, Some, None}
use Rattle.outside.specs.Seen.{Seen}
use Rattle.stt_core.specs.Lambda.{Lambda}
use Rattle.stt_core.specs.Meaning.{Model, IsModel}
use Rattle.stt_core.specs.Meets.{MeetsProblem}
use Rattle.stt_core.specs.PlainProblem.{PlainProblem}
use Rattle.stt_core.specs.Declarations.{scope_of}
use Rattle.cli_words.specs.Requests.{models, asked_by}
use Rattle.finite_models.specs.Symbols.{model_symbols}
use Rattle.finite_models.specs.Candidates.{model_of}
use Rattle.finite_models.specs.Small.{IsSmallFinding}
use Rattle.finite_models.specs.Laws.{HasSize, NoModelHasSize}
use Rattle.finite_models.specs.declared.found.Found.TheVariants as found
use Rattle.szs_report.specs.Outcomes.{outcome_of}
use Rattle.szs_report.specs.Report.{report_of}
use Rattle.szs_report.specs.ModelText.{model_text}
use Rattle.szs_report.specs.declared.answer.Answer.{Answer}
use Rattle.szs_report.specs.declared.answer.Answer.TheVariants as answer
use Rattle.szs_report.specs.declared.outcome.Outcome.{Outcome}
use Rattle.szs_report.specs.declared.outcome.Outcome.TheVariants.{CounterSatisfiable, Satisfiable, NoneSmall, ModelsTooMany}
use Rattle.request_answers.specs.Requested.{asked_name}
use Rattle.request_answers.specs.Names.{names_in}
use Rattle.request_answers.specs.Files.{StatesProblem}

-- a finite model is reported
abbrev pub IsModelOutcome : Outcome → Type 0
IsModelOutcome (CounterSatisfiable s) = Unit {0}
IsModelOutcome (Satisfiable s) = Unit {0}
IsModelOutcome outcome = ⊥

-- a finite model is reported, or that there is none, or that there is too much to look at
abbrev pub IsOfModels : Outcome → Type 0
IsOfModels (CounterSatisfiable s) = Unit {0}
IsOfModels (Satisfiable s) = Unit {0}
IsOfModels (NoneSmall k) = Unit {0}
IsOfModels (ModelsTooMany s) = Unit {0}
IsOfModels outcome = ⊥

-- A standard model whose base types from `$i` on have so many values each meets the problem: its assumed formulas are true in it, and
-- its conjecture, where there is one, is false.
abbrev pub HasModelOfSize : PlainProblem → ℕ → Type 0
HasModelOfSize p s = (m : Model) × IsModel (scope_of p.declared) m × HasSize s m × MeetsProblem p m

-- What such an outcome says of a problem, where the search has this bound: there is a model of this size; no model of a size within the
-- bound meets the problem, whatever its choices and descriptions; or the problem doesn't fit the size, though it does each smaller one, of
-- which no model meets it.
abbrev pub SaysOfModels : Outcome → ℕ → PlainProblem → Type 0
SaysOfModels (CounterSatisfiable s) upto p = ((t : Lambda) × (p.conjecture ≡ Some t)) × HasModelOfSize p s
SaysOfModels (Satisfiable s) upto p = (p.conjecture ≡ None) × HasModelOfSize p s
SaysOfModels (NoneSmall k) upto p = (k ≡ upto) × ((n : ℕ) → 1 ≤ n → n ≤ upto → NoModelHasSize p n)
SaysOfModels (ModelsTooMany s) upto p = IsSmallFinding p upto (found.TooMany s) × ((n : ℕ) → 1 ≤ n → n < s → NoModelHasSize p n)
SaysOfModels outcome upto p = ⊥

-- The words ask for models within a bound, and what the outcome says holds of the problem that the files state.
pub record HasModelsSo (words : List (List ℕ)) (seen : Seen) (outcome : Outcome) : Type 0 where
  pub upto : ℕ
  pub file : List ℕ
  pub asked : asked_by words ≡ Some (models upto file)
  pub names : List (List ℕ)
  pub problem : PlainProblem
  pub stated : StatesProblem words seen names problem
  pub says : SaysOfModels outcome upto problem

-- the answer of a model of this size with these lines, for a problem with this conjecture, or with none
abbrev pub model_answer_by : Option Lambda → ℕ → List ℕ → Answer
model_answer_by None s lines = answer.Satisfiable s lines
model_answer_by (Some t) s lines = answer.CounterSatisfiable s lines

-- What is written where a model is reported: the values of the problem's symbols in a model of this size that meets the problem that the
-- files state.
pub record IsModelReport (words : List (List ℕ)) (seen : Seen) (outcome : Outcome) (written : List ℕ) : Type 0 where
  pub names : List (List ℕ)
  pub problem : PlainProblem
  pub stated : StatesProblem words seen names problem
  pub size : ℕ
  pub values : List ℕ
  pub is_model : IsModel (scope_of problem.declared) (model_of size (model_symbols problem) values)
  pub has_size : HasSize size (model_of size (model_symbols problem) values)
  pub meets : MeetsProblem problem (model_of size (model_symbols problem) values)
  pub is_outcome :
      outcome ≡ outcome_of (model_answer_by problem.conjecture size (model_text (names_in problem) (model_symbols problem) values))
  pub is_report :
      written
      ≡ report_of (asked_name words)
      (model_answer_by problem.conjecture size (model_text (names_in problem) (model_symbols problem) values))
