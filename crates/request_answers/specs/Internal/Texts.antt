-- Problems whose refutations have texts.
use Rattle.stt_core.specs.PlainProblem.{PlainProblem}
use Rattle.stt_core.specs.TypedProblem.{IsTyped, NamesDiffer}
use Rattle.type_bound.specs.Modest.{IsModestProblem}
use Rattle.request_answers.specs.Names.{names_in, ArePrintable}

-- The problem is typed, its types nest at most 1,024 deep, and its names are printable and differ from one another: so its refutations have
-- texts.
pub record HasTexts (p : PlainProblem) : Type 0 where
  pub typed : IsTyped p
  pub modest : IsModestProblem 1024 p
  pub printable : ArePrintable (names_in p)
  pub apart : NamesDiffer p.declared
