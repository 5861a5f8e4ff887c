-- What contracts may know of files.
use Rattle.std.specs.Prelude.{ℕ, Bool, List, Option}

-- What is known of files: whether they tell what they hold, and what the file of each name then holds, if there is one.
pub record Seen : Type 0 where
  pub tells : Bool
  pub contents : List ℕ → Option (List ℕ)
