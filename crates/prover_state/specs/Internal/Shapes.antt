-- Shapes of atoms.
use Rattle.std.specs.Prelude.{◌≡◌, ℕ, suc, Option, Some, None}
use Rattle.stt_core.specs.SimpleType.{SimpleType, base}
use Rattle.stt_core.specs.Lambda.{all, Lambda, constant, app, eq, every}

-- the formula says of a predicate on a type that it holds everywhere
pub record IsQuantifiedFormula (t : Lambda) : Type 0 where
  pub type : SimpleType
  pub predicate : Lambda
  pub is : t ≡ every type predicate

-- the formula is an equation on a base type other than that of formulas
pub record IsBaseEquation (t : Lambda) : Type 0 where
  pub base_number : ℕ
  pub left : Lambda
  pub right : Lambda
  pub is : t ≡ eq (base (suc base_number)) left right

-- the type over which a formula ranges, where it is quantified
abbrev pub quantified_type : Lambda → Option SimpleType
quantified_type (app (constant (all a)) f) = Some a
quantified_type t = None
