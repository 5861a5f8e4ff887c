-- A stored constant as its name and its type.
use Rattle.stt_core.specs.TypedName.{TypedName}
use Rattle.stt_core.specs.View.{the_type}
use Rattle.stt_core.specs.declared.signature.Const.{Const}

abbrev pub typed_name : Const → TypedName
typed_name c = record { name = c.name.items; type = the_type c.ty }
