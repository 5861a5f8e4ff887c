-- Where one may replace, apply and normalise.
use Rattle.std.specs.Prelude.{◌≡◌, ℕ, List, [], ◌∷◌, ◌++◌, length, Some}
use Rattle.stt_core.specs.SimpleType.{SimpleType, base, arrow}
use Rattle.stt_core.specs.Lambda.{Lambda, bound}
use Rattle.stt_core.specs.Typing.{Scope, IsScope, AreDeclared, type_of}
use Rattle.stt_core.specs.Canonical.{IsCanonical}

-- In a scope and a context, both terms are canonical, and the first is a function whose arguments have the type of the second.
pub record Applies (scope : Scope) (ctx : List SimpleType) (f u : Lambda) : Type 0 where
  pub argument : SimpleType
  pub result : SimpleType
  pub function_in : IsCanonical scope ctx (arrow argument result) f
  pub argument_in : IsCanonical scope ctx argument u

-- the same in some scope and context
pub record CanApply (f u : Lambda) : Type 0 where
  pub scope : Scope
  pub ctx : List SimpleType
  pub applies : Applies scope ctx f u

-- The term has a type, and all types of what is declared and of the free variables are declared themselves.
pub record IsNormalisable (scope : Scope) (ctx : List SimpleType) (t : Lambda) : Type 0 where
  pub scope_declared : IsScope scope
  pub ctx_declared : AreDeclared scope.bases ctx
  pub type : SimpleType
  pub has_type : type_of scope ctx t ≡ Some type

-- canonical arguments of the types that a function of this type takes, first one first
abbrev pub ArgumentsFit : Scope → List SimpleType → SimpleType → List Lambda → Type 0
ArgumentsFit scope ctx a [] = Unit {0}
ArgumentsFit scope ctx (base n) (u ∷ us) = ⊥
ArgumentsFit scope ctx (arrow a b) (u ∷ us) = IsCanonical scope ctx a u × ArgumentsFit scope ctx b us

-- f is a canonical function that takes these canonical arguments
pub record ArgumentsApply (f : Lambda) (us : List Lambda) : Type 0 where
  pub scope : Scope
  pub ctx : List SimpleType
  pub type : SimpleType
  pub function_in : IsCanonical scope ctx type f
  pub arguments_fit : ArgumentsFit scope ctx type us

-- r has the type of variable k of t
pub record Replaces (a : SimpleType) (k : ℕ) (r t : Lambda) : Type 0 where
  pub scope : Scope
  pub ctx : List SimpleType
  pub front : List SimpleType
  pub result : SimpleType
  pub length_is : length front ≡ k
  pub r_in : IsCanonical scope ctx a r
  pub t_in : IsCanonical scope (front ++ a ∷ ctx) result t

-- t has this type, and takes these arguments
pub record AppliesAll (a : SimpleType) (t : Lambda) (us : List Lambda) : Type 0 where
  pub scope : Scope
  pub ctx : List SimpleType
  pub t_in : IsCanonical scope ctx a t
  pub us_in : ArgumentsFit scope ctx a us

-- r has the type of variable k, and where that is the head, takes the arguments
pub record HeadReplaces (a : SimpleType) (k : ℕ) (r h : Lambda) (us : List Lambda) : Type 0 where
  pub scope : Scope
  pub ctx : List SimpleType
  pub front : List SimpleType
  pub length_is : length front ≡ k
  pub r_in : IsCanonical scope ctx a r
  pub us_in : h ≡ bound k → ArgumentsFit scope (front ++ ctx) a us
