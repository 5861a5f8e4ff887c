-- What the test's partial term is over.
use Rattle.std.specs.Prelude.{[], ◌∷◌}
use Rattle.stt_core.specs.SimpleType.{SimpleType, base}
use Rattle.stt_core.specs.Typing.{Scope}

abbrev pub individual : SimpleType
individual = base 1

-- one constant, an individual
abbrev pub one_constant : Scope
one_constant = record { bases = 0; names = individual ∷ []; witnesses = [] }
