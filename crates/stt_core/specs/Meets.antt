-- When a model meets formulas and problems (Andrews 2002, section 54).
use Rattle.std.specs.Prelude.{◌≡◌, List, [], ◌∷◌, Option, Some, None}
use Rattle.stt_core.specs.Lambda.{Lambda}
use Rattle.stt_core.specs.Typing.{Scope}
use Rattle.stt_core.specs.Meaning.{Model, value}
use Rattle.stt_core.specs.Declarations.{scope_of}
use Rattle.stt_core.specs.PlainProblem.{PlainProblem}

-- the model meets a closed formula: its value is 1
abbrev pub MeetsFormula : Scope → Model → Lambda → Type 0
MeetsFormula scope m t = value scope m [] [] t ≡ 1

abbrev pub MeetsFormulas : Scope → Model → List Lambda → Type 0
MeetsFormulas scope m [] = Unit {0}
MeetsFormulas scope m (t ∷ ts) = MeetsFormula scope m t × MeetsFormulas scope m ts

-- the model doesn't meet the conjecture, where there is one
abbrev pub Refutes : Scope → Model → Option Lambda → Type 0
Refutes scope m None = Unit {0}
Refutes scope m (Some t) = MeetsFormula scope m t → ⊥

-- the model meets each formula that the problem assumes and not its conjecture, so it shows that the problem's answer is no
pub record MeetsProblem (p : PlainProblem) (m : Model) : Type 0 where
  pub assumed : MeetsFormulas (scope_of p.declared) m p.assumed
  pub conjecture : Refutes (scope_of p.declared) m p.conjecture
