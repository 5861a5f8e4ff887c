-- What a signature declares, beside the types of the witnesses.
use Rattle.std.specs.Prelude.{List, length, map}
use Rattle.stt_core.specs.SimpleType.{SimpleType}
use Rattle.stt_core.specs.Typing.{Scope}
use Rattle.stt_core.specs.declared.signature.Signature.{Signature}

abbrev pub the_scope : Signature → List SimpleType → Scope
the_scope s witnesses = record { bases = length s.bases; names = map (λ c. c.type) s.consts; witnesses = witnesses }
