-- Heads that make formulas.
use Rattle.std.specs.Prelude.{◌≡◌, ℕ, List, Some}
use Rattle.stt_core.specs.SimpleType.{SimpleType, formula}
use Rattle.stt_core.specs.Lambda.{Lambda}
use Rattle.stt_core.specs.Typing.{Scope, type_of}
use Rattle.normal_forms.specs.Internal.Applying.{result_after}

-- with n arguments the head is a formula, wherever it has a type
abbrev pub MakesFormula : Lambda → ℕ → Type 0
MakesFormula h n = (scope : Scope) (ctx : List SimpleType) (a : SimpleType) → type_of scope ctx h ≡ Some a → result_after n a ≡ formula
