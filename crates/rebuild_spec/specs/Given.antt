-- What is right of an input.
use Rattle.std.specs.Prelude.{◌≡◌, ℕ, List, map, Some, slice_get, Contains}
use Rattle.stt_core.specs.Lambda.{Lambda}
use Rattle.stt_core.specs.Typing.{Scope}
use Rattle.tableau_calculus.specs.Literals.{Literal, plus, IsLiteral}
use Rattle.tableau_calculus.specs.Witnesses.{Row, with_rows, IsTable}
use Rattle.tableau_calculus.specs.Rules.{Rule}
use Rattle.sat_base.specs.declared.literal.SatLit.{SatLit}
use Rattle.search_spec.specs.Clauses.{instance_clauses}
use Rattle.search_spec.specs.Numbered.{numbers, literal_at}
use Rattle.rebuild_spec.specs.Input.{Instance, Sourced, start_unit, clause_by, Input, literals_of}

-- the clause is one of those of the instance, which is one of its rule
pub record IsClauseOf (scope : Scope) (rows : List Row) (atoms : List Lambda) (clause : List SatLit) (i : Instance) : Type 0 where
  pub fits : Rule scope rows i.rule (literals_of atoms i.principals) (map (literals_of atoms) i.alternatives)
  pub is_one : Contains (instance_clauses numbers i.principals i.alternatives) clause

-- a start unit's literal is one of the start, and another clause is one of its instance
abbrev pub IsRightClause : Scope → List Literal → Input → Sourced → Type 0
IsRightClause scope start input (start_unit l) = Contains start (literal_at input.atoms l)
IsRightClause scope start input (clause_by c i) = IsClauseOf (with_rows scope input.rows) input.rows input.atoms c i

-- the rows are a witness table, the atoms are formulas over it, and the clauses are right
pub record IsGiven (scope : Scope) (start : List Literal) (input : Input) : Type 0 where
  pub table : IsTable scope input.rows
  pub atoms : (t : Lambda) → Contains input.atoms t → IsLiteral (with_rows scope input.rows) (plus t)
  pub clauses : (n : ℕ) (c : Sourced) → slice_get input.clauses n ≡ Some c → IsRightClause scope start input c
