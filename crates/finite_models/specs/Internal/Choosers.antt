-- Choices and descriptions as symbols, and their places.
use Rattle.std.specs.Prelude.{◌≡◌, ◌<◌, ℕ, List, slice_get, Some, refl}
use Rattle.std.specs.Coded.{Coded, code_by, coded×}
use Rattle.stt_core.specs.SimpleType.{SimpleType}
use Rattle.stt_core.specs.Lambda.{Constant, falsity, Lambda, bound, constant, lam, app}
use Rattle.stt_core.specs.Internal.LambdaCode.{lambda_code}
use Rattle.stt_core.specs.Internal.TypeCode.{type_code}
use Rattle.finite_models.specs.Symbols.{Symbol}

abbrev pub constant_of : Lambda → Constant
constant_of (bound k) = falsity
constant_of (constant c) = c
constant_of (lam a s) = falsity
constant_of (app s u) = falsity

-- a symbol as a pair, by which contracts may compare values that hold it
abbrev pub symbol_code : Coded Symbol
symbol_code =
    code_by (Lambda × SimpleType) (coded× lambda_code type_code) (λ x. (constant x.constant, x.type))
    (λ p. record { constant = constant_of p.0; type = p.1 }) (λ _. refl)

-- no symbol of the list has the same constant
abbrev pub IsNoPlace : Symbol → List Symbol → Type 0
IsNoPlace y xs = (j : ℕ) (x : Symbol) → slice_get xs j ≡ Some x → y.constant ≡ x.constant → ⊥

-- the place is the first one at which a symbol with the same constant stands
pub record IsFirstPlace (y : Symbol) (xs : List Symbol) (i : ℕ) : Type 0 where
  pub symbol : Symbol
  pub there : slice_get xs i ≡ Some symbol
  pub same : y.constant ≡ symbol.constant
  pub first : (j : ℕ) (x : Symbol) → j < i → slice_get xs j ≡ Some x → y.constant ≡ x.constant → ⊥
