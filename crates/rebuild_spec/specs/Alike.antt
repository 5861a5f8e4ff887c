-- Inputs whose logs use the same instances.
use Rattle.std.specs.Prelude.{◌≡◌, ℕ, List, [], ◌∷◌, map, Some, slice_get}
use Rattle.tableau_calculus.specs.Literals.{Literal}
use Rattle.sat_base.specs.declared.literal.SatLit.{SatLit}
use Rattle.rebuild_spec.specs.Input.{Instance, clause_by, clause_in, Input, literals_of}
use Rattle.rebuild_spec.specs.Trees.{at_clause}
use Rattle.rebuild_spec.specs.Stands.{rule_at_places}
use Rattle.rebuild_spec.specs.Used.{IsUsed}

-- the clauses that an input's clauses of numbers stand for
abbrev pub formula_clauses : Input → List (List Literal)
formula_clauses input = map (literals_of input.atoms) (map clause_in input.clauses)

-- no clause stands twice
abbrev pub StandOnce : List (List Literal) → Type 0
StandOnce clauses = (j k : ℕ) (c : List Literal) → slice_get clauses j ≡ Some c → slice_get clauses k ≡ Some c → j ≡ k

-- The log of the other input uses the clause of this number too, by the same instance: the same rule, the places of its principals apart,
-- with the same principals and the same alternatives, in formulas.
pub record IsUsedAlike (input other : Input) (number : ℕ) (i : Instance) : Type 0 where
  pub clause : List SatLit
  pub instance : Instance
  pub there : slice_get other.clauses number ≡ Some (clause_by clause instance)
  pub used : IsUsed other.log (at_clause number)
  pub rule : rule_at_places i.rule (0 ∷ 1 ∷ []) ≡ rule_at_places instance.rule (0 ∷ 1 ∷ [])
  pub principals : literals_of input.atoms i.principals ≡ literals_of other.atoms instance.principals
  pub alternatives : map (literals_of input.atoms) i.alternatives ≡ map (literals_of other.atoms) instance.alternatives
