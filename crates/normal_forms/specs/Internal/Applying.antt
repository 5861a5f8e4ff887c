-- Terms that are applied to several arguments, and parts of them.
use Rattle.std.specs.Prelude.{ℕ, zero, suc, List, [], ◌∷◌}
use Rattle.stt_core.specs.SimpleType.{SimpleType, base, arrow}
use Rattle.stt_core.specs.Lambda.{Lambda, bound, constant, lam, app}
use Rattle.stt_core.specs.Typing.{Scope}
use Rattle.normal_forms.specs.Normal.{Way, later, by_first}
use Rattle.normal_forms.specs.Ready.{IsNormalisable, ArgumentsFit}

-- the term can be normalised, and its normal form can be applied to these arguments
pub record IsApplicable (scope : Scope) (ctx : List SimpleType) (t : Lambda) (us : List Lambda) : Type 0 where
  pub term : IsNormalisable scope ctx t
  pub arguments : ArgumentsFit scope ctx term.type us

-- the type of what a function of this type gives at n arguments
abbrev pub result_after : ℕ → SimpleType → SimpleType
result_after zero a = a
result_after (suc n) (base m) = base m
result_after (suc n) (arrow a b) = result_after n b

-- a term without its first n binders
abbrev pub body_under : ℕ → Lambda → Lambda
body_under zero t = t
body_under (suc n) (lam a s) = body_under n s
body_under (suc n) (bound k) = bound k
body_under (suc n) (constant c) = constant c
body_under (suc n) (app s u) = app s u

-- applied to one argument after the other, by the ways
abbrev pub apply_ways : List Way → Lambda → List Lambda → Lambda
apply_ways ws t [] = t
apply_ways ws t (u ∷ us) = apply_ways (later ws) (by_first ws t u) us
