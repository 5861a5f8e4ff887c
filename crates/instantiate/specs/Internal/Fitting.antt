-- The type of a head that fits a hole, and what comes of the head there.
use Rattle.std.specs.Prelude.{◌≡◌, ℕ, nat_eq, [], Option, Some, None, if◌then◌else◌}
use Rattle.stt_core.specs.SimpleType.{SimpleType, target}
use Rattle.stt_core.specs.Lambda.{Lambda}
use Rattle.stt_core.specs.Typing.{Scope, type_of}
use Rattle.search_spec.specs.Partial.{Partial, Hole, first_hole}
use Rattle.search_spec.specs.TypedPartial.{IsPartial}
use Rattle.search_spec.specs.Commands.{filling_at}
use Rattle.instantiate.specs.Growing.{IsTypedPartialTerm}

-- the type, where its target is this base type
abbrev pub to_base : ℕ → Option SimpleType → Option SimpleType
to_base n None = None
to_base n (Some a) = if nat_eq (target a) n then Some a else None

abbrev pub fitting : Scope → Lambda → Option Hole → Option SimpleType
fitting scope h None = None
fitting scope h (Some at) = to_base at.base (type_of scope at.context h)

-- the partial term with the head in its first hole, of the same type
pub record HasGrown (scope : Scope) (h : Lambda) (p q : Partial) (a : SimpleType) : Type 0 where
  pub is_filled : filling_at scope h p (first_hole [] p) ≡ Some q
  pub typed : IsPartial scope [] a q

abbrev pub IsFilledWith : Scope → Lambda → Partial → Partial → Type 0
IsFilledWith scope h p q = (typed : IsTypedPartialTerm scope p) → HasGrown scope h p q typed.type
