-- How deep the types of a term nest.
use Rattle.std.specs.Prelude.{ℕ, ◌≤◌, List, [], ◌∷◌, Option, Some, None}
use Rattle.stt_core.specs.SimpleType.{SimpleType}
use Rattle.stt_core.specs.Lambda.{Lambda, bound, constant, lam, app}
use Rattle.stt_core.specs.Typing.{Scope, constant_type}
use Rattle.normal_forms.specs.Normal.{normal_form}
use Rattle.refute_print.specs.Sizes.{nesting}

-- the type, where there is one, nests no deeper than so much
abbrev pub IsShallowType : ℕ → Option SimpleType → Type 0
IsShallowType limit None = Unit {0}
IsShallowType limit (Some a) = nesting a ≤ limit

-- the types of the term's constants and of its variables nest no deeper than so much
abbrev pub HasShallowTypes : ℕ → Scope → Lambda → Type 0
HasShallowTypes limit scope (bound k) = Unit {0}
HasShallowTypes limit scope (constant c) = IsShallowType limit (constant_type scope c)
HasShallowTypes limit scope (lam a s) = (nesting a ≤ limit) × HasShallowTypes limit scope s
HasShallowTypes limit scope (app s u) = HasShallowTypes limit scope s × HasShallowTypes limit scope u

abbrev pub AreShallowTypes : ℕ → List SimpleType → Type 0
AreShallowTypes limit [] = Unit {0}
AreShallowTypes limit (a ∷ ctx) = (nesting a ≤ limit) × AreShallowTypes limit ctx

-- the normal form of a term has types within a limit within which those of the term are
abbrev pub NormalFormsKeepTypes : Type 0
NormalFormsKeepTypes =
    (limit : ℕ) (scope : Scope) (ctx : List SimpleType) (t : Lambda)
    → AreShallowTypes limit ctx
    → HasShallowTypes limit scope t
    → HasShallowTypes limit scope (normal_form scope ctx t)
