-- What a signature's names stand for.
use Rattle.std.specs.Prelude.{ℕ, ◌+◌, List, Option, Some, None, position}
use Rattle.std.specs.Str.{bytes_eq}
use Rattle.stt_core.specs.TypedName.{TypedName}
use Rattle.stt_core.specs.declared.signature.Symbol.{Symbol}
use Rattle.stt_core.specs.declared.signature.Symbol.TheVariants.{Base, Const}

abbrev pub first_symbol : Option ℕ → Option ℕ → Option Symbol
first_symbol (Some i) place = Some (Base (i + 2))
first_symbol None (Some i) = Some (Const i)
first_symbol None None = None

-- the first base type of that name, or else the first constant, or none
abbrev pub symbol_named : List (List ℕ) → List TypedName → List ℕ → Option Symbol
symbol_named bases consts name = first_symbol (position (λ base. bytes_eq base name) bases) (position (λ c. bytes_eq c.name name) consts)
