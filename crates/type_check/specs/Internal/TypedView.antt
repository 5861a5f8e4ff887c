-- The typed terms of the code as plain ones.
use Rattle.stt_core.specs.SimpleType.{SimpleType}
use Rattle.stt_core.specs.View.{the_type, the_term}
use Rattle.type_check.specs.Typed.{TypedTerm}
use Rattle.type_check.specs.declared.typed.TypeOf.{TypeOf}
use Rattle.type_check.specs.declared.typed.TypeOf.TheVariants.{Kept, Made}
use Rattle.type_check.specs.declared.typed.Typed.{Typed}

abbrev pub the_type_of : TypeOf → SimpleType
the_type_of (Kept ty) = the_type ty.now
the_type_of (Made ty) = the_type ty

abbrev pub the_typed : Typed → TypedTerm
the_typed x = record { term = the_term x.term; type = the_type_of x.ty }
