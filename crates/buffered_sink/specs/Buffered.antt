-- A sink that gathers bytes for another one.
use Rattle.std.specs.Prelude.{ℕ, List}

-- the sink behind it, and the bytes that it holds
pub record Buffered (S : Type 0) : Type 0 where
  pub sink : S
  pub held : List ℕ
