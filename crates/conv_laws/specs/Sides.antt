-- Whether the two sides of a conjecture are convertible. Nothing is unfolded.
use Rattle.std.specs.Prelude.{◌≡◌, [], Some}
use Rattle.stt_core.specs.SimpleType.{SimpleType}
use Rattle.stt_core.specs.Lambda.{Lambda, eq}
use Rattle.stt_core.specs.Declarations.{scope_of}
use Rattle.stt_core.specs.PlainProblem.{PlainProblem}
use Rattle.conv_laws.specs.Steps.{AreConvertible}
use Rattle.conv_laws.specs.declared.sides.Sides.{Sides}
use Rattle.conv_laws.specs.declared.sides.Sides.TheVariants.{Same, Different, NoEquation}

-- the conjecture is the equation between these terms
abbrev pub Equates : PlainProblem → Lambda → Lambda → Type 0
Equates p s t = (a : SimpleType) × (p.conjecture ≡ Some (eq a s t))

-- The sides are convertible, they aren't, or there is no conjecture or one that is no equation.
pub data AreSidesOf (p : PlainProblem) : Sides → Type 0 where
  same : (s t : Lambda) → Equates p s t → AreConvertible (scope_of p.declared) [] s t → AreSidesOf p Same
  different : (s t : Lambda) → Equates p s t → (AreConvertible (scope_of p.declared) [] s t → ⊥) → AreSidesOf p Different
  no_equation : ((s t : Lambda) → Equates p s t → ⊥) → AreSidesOf p NoEquation

-- a problem has one answer
abbrev pub OneAnswerOnSides : PlainProblem → Type 0
OneAnswerOnSides p = (x y : Sides) → AreSidesOf p x → AreSidesOf p y → x ≡ y
