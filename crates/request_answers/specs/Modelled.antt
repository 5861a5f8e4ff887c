-- What the search for a finite model is answered with.
use Rattle.std.specs.Prelude.{◌≡◌, ℕ, List, Some, None}
use Rattle.stt_core.specs.Lambda.{Lambda}
use Rattle.stt_core.specs.PlainProblem.{PlainProblem}
use Rattle.finite_models.specs.Symbols.{model_symbols}
use Rattle.finite_models.specs.Small.{IsSmallFinding}
use Rattle.finite_models.specs.Laws.{ShowsModels}
use Rattle.finite_models.specs.declared.found.Found.{Found}
use Rattle.finite_models.specs.declared.found.Found.TheVariants as found
use Rattle.szs_report.specs.ModelText.{model_text}
use Rattle.szs_report.specs.declared.answer.Answer.{Answer}
use Rattle.szs_report.specs.declared.answer.Answer.TheVariants.{CounterSatisfiable, Satisfiable, NoneSmall, ModelsTooMany, Memory}
use Rattle.request_answers.specs.Names.{names_in}

-- this is found within the bound, and shows what it is to show of models
pub record IsFoundWithin (upto : ℕ) (p : PlainProblem) (f : Found) : Type 0 where
  pub small : IsSmallFinding p upto f
  pub shows : ShowsModels p upto f

-- a model of this size is found, and its values are written in these lines
pub record IsModelFound (upto : ℕ) (p : PlainProblem) (size : ℕ) (lines : List ℕ) : Type 0 where
  pub values : List ℕ
  pub found : IsFoundWithin upto p (found.Model size values)
  pub lines_are : lines ≡ model_text (names_in p) (model_symbols p) values

-- what is found within the bound; memory may run out
abbrev pub AnswersModels : ℕ → PlainProblem → Answer → Type 0
AnswersModels upto p Memory = Unit {0}
AnswersModels upto p (CounterSatisfiable s lines) = ((t : Lambda) × (p.conjecture ≡ Some t)) × IsModelFound upto p s lines
AnswersModels upto p (Satisfiable s lines) = (p.conjecture ≡ None) × IsModelFound upto p s lines
AnswersModels upto p (NoneSmall k) = (k ≡ upto) × IsFoundWithin upto p found.None
AnswersModels upto p (ModelsTooMany s) = IsFoundWithin upto p (found.TooMany s)
AnswersModels upto p answer = ⊥
