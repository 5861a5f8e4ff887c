-- A hole with the type of a head there.
use Rattle.std.specs.Prelude.{ℕ, Option, option_map}
use Rattle.stt_core.specs.SimpleType.{SimpleType}
use Rattle.stt_core.specs.Lambda.{Lambda}
use Rattle.stt_core.specs.Typing.{Scope, type_of}
use Rattle.stt_core.specs.View.{the_type}
use Rattle.search_spec.specs.Partial.{Hole}
use Rattle.instantiate.specs.declared.slot.Slot.{Slot}

abbrev pub the_slot : Slot → ℕ × Option SimpleType
the_slot s = (s.base, option_map the_type s.ty)

abbrev pub slot_of : Scope → Lambda → Hole → ℕ × Option SimpleType
slot_of scope h at = (at.base, type_of scope at.context h)
