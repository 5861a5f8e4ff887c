-- Lists of literals to which unit propagation adds nothing. Only laws, proofs and private contracts use it.
use Rattle.std.specs.Prelude.{Bool, IsTrue, List}
use Rattle.std.specs.List.{list_any, Contains}
use Rattle.sat_base.specs.declared.literal.SatLit.{SatLit}
use Rattle.sat_base.specs.Literal.{holds}
use Rattle.sat_log.specs.Propagation.{IsUnitClause, IsFalseIn}

-- whether some literal of the clause is in the list
abbrev pub satisfies : List SatLit → List SatLit → Bool
satisfies literals clause = list_any (holds literals) clause

-- all literals of one list are in another
abbrev pub IsClausePart : List SatLit → List SatLit → Type 0
IsClausePart some literals = (l : SatLit) → IsTrue (holds some l) → IsTrue (holds literals l)

-- no clause is false in the list, and a literal that is the only one of a clause whose negation is not in the list is in the list
pub record IsComplete (clauses : List (List SatLit)) (literals : List SatLit) : Type 0 where
  pub none_false : (clause : List SatLit) → Contains clauses clause → ¬ IsFalseIn literals clause
  pub units_held :
      (clause : List SatLit) (l : SatLit) → Contains clauses clause → IsUnitClause literals clause l → IsTrue (holds literals l)
