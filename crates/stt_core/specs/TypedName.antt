-- A declared constant: its name, as bytes, and its type.
use Rattle.std.specs.Prelude.{ℕ, List}
use Rattle.stt_core.specs.SimpleType.{SimpleType}

pub record TypedName : Type 0 where
  pub name : List ℕ
  pub type : SimpleType
