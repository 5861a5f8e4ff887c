-- Where terms of a scope are replaced, and functions applied to several arguments.
use Rattle.std.specs.Prelude.{◌≡◌, ℕ, List, ◌∷◌, ◌++◌, length, map}
use Rattle.stt_core.specs.SimpleType.{SimpleType}
use Rattle.stt_core.specs.Lambda.{Lambda, applied}
use Rattle.stt_core.specs.Typing.{Scope}
use Rattle.stt_core.specs.Canonical.{IsCanonical}
use Rattle.normal_forms.specs.Normal.{replace}
use Rattle.normal_forms.specs.Ready.{ArgumentsFit}
use Rattle.bank_normal.specs.Right.{term_ways}

-- r has the type of variable k of t
pub record ReplacesIn (scope : Scope) (k : ℕ) (r t : Lambda) : Type 0 where
  pub ctx : List SimpleType
  pub front : List SimpleType
  pub type : SimpleType
  pub result : SimpleType
  pub length_is : length front ≡ k
  pub r_in : IsCanonical scope ctx type r
  pub t_in : IsCanonical scope (front ++ type ∷ ctx) result t

-- f takes these arguments
pub record AppliesAllIn (scope : Scope) (f : Lambda) (us : List Lambda) : Type 0 where
  pub ctx : List SimpleType
  pub type : SimpleType
  pub function_in : IsCanonical scope ctx type f
  pub arguments_fit : ArgumentsFit scope ctx type us

-- the head's arguments, in which r stands for variable k already, are these
pub record HeadFits (scope : Scope) (k : ℕ) (r h : Lambda) (vs : List Lambda) : Type 0 where
  pub before : List Lambda
  pub are : vs ≡ map (replace (term_ways r) k r) before
  pub fits : ReplacesIn scope k r (applied h before)
