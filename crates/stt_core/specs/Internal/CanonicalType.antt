-- The type that a canonical term has, or none where a term isn't canonical or has no type.
use Rattle.std.specs.Prelude.{List, ◌∷◌, Option, Some, None, slice_get, option_map, if◌then◌else◌}
use Rattle.stt_core.specs.SimpleType.{SimpleType, base, arrow, is_declared}
use Rattle.stt_core.specs.Lambda.{Lambda, bound, constant, lam, app}
use Rattle.stt_core.specs.Typing.{Scope, constant_type, applied_type}

-- the type, where it is a base type
abbrev pub where_base : Option SimpleType → Option SimpleType
where_base (Some (base n)) = Some (base n)
where_base (Some (arrow a b)) = None
where_base None = None

-- the type of functions from a, where that is declared and the result has a type
abbrev pub abstracted_type : Scope → SimpleType → Option SimpleType → Option SimpleType
abstracted_type scope a b = if is_declared scope.bases a then option_map (arrow a) b else None

abbrev mutual
  pub canonical_type : Scope → List SimpleType → Lambda → Option SimpleType
  canonical_type scope ctx (bound k) = where_base (slice_get ctx k)
  canonical_type scope ctx (constant c) = where_base (constant_type scope c)
  canonical_type scope ctx (app s u) = where_base (applied_type (neutral_type scope ctx s) (canonical_type scope ctx u))
  canonical_type scope ctx (lam a s) = abstracted_type scope a (canonical_type scope (a ∷ ctx) s)

  -- the type of a head with canonical arguments
  pub neutral_type : Scope → List SimpleType → Lambda → Option SimpleType
  neutral_type scope ctx (bound k) = slice_get ctx k
  neutral_type scope ctx (constant c) = constant_type scope c
  neutral_type scope ctx (app s u) = applied_type (neutral_type scope ctx s) (canonical_type scope ctx u)
  neutral_type scope ctx (lam a s) = None
