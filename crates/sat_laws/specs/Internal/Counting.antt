-- Clauses over some variables. Only laws and proofs use it.
use Rattle.std.specs.Prelude.{IsTrue, List}
use Rattle.std.specs.List.{list_any}
use Rattle.sat_base.specs.declared.literal.Var.{Var}
use Rattle.sat_base.specs.declared.literal.SatLit.{SatLit}
use Rattle.sat_base.specs.Literal.{same_var, holds}

-- the variable of each literal of the clause is in the list
abbrev pub IsAmong : List Var → List SatLit → Type 0
IsAmong variables clause = (l : SatLit) → IsTrue (holds clause l) → IsTrue (list_any (same_var l.var) variables)
