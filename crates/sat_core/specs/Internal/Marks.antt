-- What contracts see of marks.
use Rattle.std.specs.Prelude.{◌<◌, ◌≤◌, ℕ, Bool, false, not, List, Option, Some, None, filter, slice_index_or}
use Rattle.std.specs.List.{All}
use Rattle.sat_base.specs.declared.literal.Var.{Var}
use Rattle.sat_base.specs.declared.literal.SatLit.{SatLit}
use Rattle.sat_base.specs.Literal.{same_literal}

-- a mark for each variable, which were marked since all marks were taken away, in order, and how many of these were met
pub record MarkState : Type 0 where
  pub marked : List Bool
  pub touched : List Var
  pub met : ℕ

-- whether a variable is marked
abbrev pub is_marked : List Bool → Var → Bool
is_marked marks v = slice_index_or marks v.0 false

-- whether the literal on the trail has a marked variable
abbrev pub marks_literal : List Bool → SatLit → Bool
marks_literal marks l = is_marked marks l.var

-- whether a literal is the one that is left out
abbrev pub is_own : Option SatLit → SatLit → Bool
is_own None l = false
is_own (Some own) l = same_literal own l

-- the literals other than one, if there is one
abbrev pub others : Option SatLit → List SatLit → List SatLit
others own literals = filter (λ l. not (is_own own l)) literals

-- no stamp is of a later epoch, and the epoch is not 0
pub record AreStamps (stamps : List ℕ) (epoch : ℕ) : Type 0 where
  pub past : All (λ s. s ≤ epoch) stamps
  pub begun : 0 < epoch
