-- Values of literals and clauses, where some variables are taken as true. Source: propositional logic.
use Rattle.std.specs.Prelude.{Bool, false, not, if◌then◌else◌, ◌≡◌, ◌<◌, IsTrue, List, length, slice_index_or}
use Rattle.std.specs.List.{list_any, All, Any}
use Rattle.sat_base.specs.declared.literal.Var.{Var}
use Rattle.sat_base.specs.declared.literal.SatLit.{SatLit}
use Rattle.sat_base.specs.Literal.{same_var}

-- the value of a literal, where `value` is that of each variable
abbrev pub literal_value : (Var → Bool) → SatLit → Bool
literal_value value l = if l.positive then value l.var else not (value l.var)

-- a clause is true where one of its literals is
abbrev pub clause_value : (Var → Bool) → List SatLit → Bool
clause_value value clause = list_any (literal_value value) clause

-- each of the clauses is true
abbrev pub AllTrue : (Var → Bool) → List (List SatLit) → Type 0
AllTrue value clauses = All (λ clause. IsTrue (clause_value value clause)) clauses

-- exactly the variables of this list are true
abbrev pub only : List Var → Var → Bool
only atoms v = list_any (same_var v) atoms

-- for each list of variables taken as the true ones, some clause has no true literal
abbrev pub Unsat : List (List SatLit) → Type 0
Unsat clauses = (atoms : List Var) → Any (λ clause. clause_value (only atoms) clause ≡ false) clauses

-- for each list of variables taken as the true ones, if all the clauses are true then so is the last one
abbrev pub Implies : List (List SatLit) → List SatLit → Type 0
Implies clauses clause = (atoms : List Var) → AllTrue (only atoms) clauses → IsTrue (clause_value (only atoms) clause)

-- the value that an assignment has for a variable: entry k is that of variable k
abbrev pub assigned : List Bool → Var → Bool
assigned assignment v = slice_index_or assignment v.0 false

-- each variable of the clause has a value
abbrev pub IsAssigned : List Bool → List SatLit → Type 0
IsAssigned assignment clause = All (λ l. l.var.0 < length assignment) clause
