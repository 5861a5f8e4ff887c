-- What the work on a literal depends on.
use Rattle.std.specs.Prelude.{◌≡◌, zero, suc, Bool, not, ◌&&◌}
use Rattle.stt_core.specs.SimpleType.{SimpleType, base, arrow}
use Rattle.stt_core.specs.Lambda.{all, equality, Lambda, constant, app, eq}
use Rattle.tableau_calculus.specs.Literals.{Literal}
use Rattle.sat_base.specs.declared.literal.SatLit.{SatLit}
use Rattle.search_spec.specs.Partners.{has_equal_sides}
use Rattle.search_spec.specs.Processing.{with_rules}
use Rattle.search_spec.specs.State.{State}
use Rattle.prover_state.specs.declared.tables.Core.{Core}
use Rattle.prover_state.specs.Internal.Advancing.{setting_in, state_in, the_literal}
use Rattle.prover_search.specs.declared.shape.Shape.{Shape}
use Rattle.prover_search.specs.declared.shape.Shape.TheVariants.{FormulaEquation, FunctionEquation, BaseEquation, Quantified, Other}

-- the shape of an equation between terms of a type
abbrev pub equation_shape : SimpleType → Shape
equation_shape (base zero) = FormulaEquation
equation_shape (base (suc n)) = BaseEquation (suc n)
equation_shape (arrow a b) = FunctionEquation

abbrev pub shape_of : Lambda → Shape
shape_of (app (app (constant (equality a)) s) t) = equation_shape a
shape_of (app (constant (all a)) f) = Quantified
shape_of t = Other

-- the formula is an equation
pub record IsEquated (t : Lambda) : Type 0 where
  pub type : SimpleType
  pub left : Lambda
  pub right : Lambda
  pub is : t ≡ eq type left right

-- whether the literal denies that a term equals itself
abbrev pub denies_itself : Literal → Bool
denies_itself l = not l.positive && has_equal_sides l.atom

-- the state with what is done for a literal
abbrev pub with_rules_for : {W : Type 0} → Core W → SatLit → State
with_rules_for core lit = let l = the_literal core.tables.basis lit in with_rules (setting_in core) l.positive l.atom (state_in core)
