-- What contracts see of a table of clauses, and how it stands in memory.
use Rattle.std.specs.Prelude.{◌≡◌, ◌+◌, ◌≤◌, List, map, length, take, drop}
use Rattle.std.specs.List.{All}
use Rattle.sat_base.specs.declared.literal.SatLit.{SatLit}
use Rattle.sat_propagate.specs.declared.clause_table.Head.{Head}

-- a clause, with its two watched literals, or twice one of it where it watches none
pub record Watched : Type 0 where
  pub clause : List SatLit
  pub first : SatLit
  pub second : SatLit

-- clauses by their numbers
pub record Clauses : Type 0 where
  pub items : List Watched

-- the clause with this head
abbrev pub with_head : List SatLit → Head → Watched
with_head literals head = record { clause = take head.len (drop head.start literals); first = head.first; second = head.second }

-- the clauses with these heads
abbrev pub all_headed : List SatLit → List Head → List Watched
all_headed literals heads = map (with_head literals) heads

-- each head's literals are within the list
abbrev pub AreHeads : List SatLit → List Head → Type 0
AreHeads literals heads = All (λ head. head.start + head.len ≤ length literals) heads

-- each head has its clause's first literals
abbrev pub AreNear : List SatLit → List Head → Type 0
AreNear literals heads = All (λ head. take head.len head.near ≡ take 6 (take head.len (drop head.start literals))) heads

-- the heads of a table are right
pub record IsClauseTable (literals : List SatLit) (heads : List Head) : Type 0 where
  pub within : AreHeads literals heads
  pub near : AreNear literals heads
