-- The clause of a chain while it is built: placed literals in the clause's order, and a table of the numbers of those that count.
use Rattle.std.specs.Prelude.{◌≡◌, ℕ, ◌<◌, Bool, false, ◌==◌, if◌then◌else◌, List, [], ◌∷◌, ◌++◌, Option, Some, None, is_some, length, reverse}
use Rattle.std.specs.List.{All}
use Rattle.sat_base.specs.declared.literal.SatLit.{SatLit}
use Rattle.sat_base.specs.Literal.{holds}
use Rattle.sat_log.specs.declared.resolver.Placed.{Placed}
use Rattle.sat_log.specs.declared.stamps.Stamps.{Stamps}
use Rattle.sat_log.specs.Internal.Stamps.{stamp_of}

-- whether a stamp is this number
abbrev pub is_stamp : Option ℕ → ℕ → Bool
is_stamp None n = false
is_stamp (Some m) n = m == n

-- whether a placed literal counts
abbrev pub is_live : List Stamps → Placed → Bool
is_live table placed = is_stamp (stamp_of table placed.literal) placed.stamp

-- the literals that count, in order
abbrev pub live : List Stamps → List Placed → List SatLit
live table [] = []
live table (placed ∷ rest) = if is_live table placed then placed.literal ∷ live table rest else live table rest

-- what was placed, in the clause's order: the front from its newest literal on, and then the back
abbrev pub placed_in_order : List Placed → List Placed → List Placed
placed_in_order front back = reverse front ++ back

-- each stamp is below the number of placed literals, and the table has a number for exactly the literals that are in the clause
pub record IsStamped (placed : List Placed) (table : List Stamps) : Type 0 where
  pub stamps : All (λ p. p.stamp < length placed) placed
  pub marked : (l : SatLit) → is_some (stamp_of table l) ≡ holds (live table placed) l
