-- What a problem declares.
use Rattle.std.specs.Prelude.{ℕ, List, [], length, map}
use Rattle.stt_core.specs.TypedName.{TypedName}
use Rattle.stt_core.specs.Typing.{Scope}

-- the names of the base types from number 2 on, and the constants with their types, in order of declaration
pub record Declarations : Type 0 where
  pub bases : List (List ℕ)
  pub consts : List TypedName

-- what is declared, without the names and without witnesses
abbrev pub scope_of : Declarations → Scope
scope_of d = record { bases = length d.bases; names = map (λ c. c.type) d.consts; witnesses = [] }
