-- What the lines of a rebuilt refutation are about, and how many they are.
use Rattle.std.specs.Prelude.{◌≡◌, ◌<◌, ◌⊎◌, ℕ, suc, true, List, [], ◌∷◌, length, map, Some, slice_get, Contains}
use Rattle.stt_core.specs.Lambda.{Lambda}
use Rattle.tableau_calculus.specs.Rules.{PlainRule}
use Rattle.tableau_calculus.specs.Literals.{Literal}
use Rattle.tableau_calculus.specs.declared.rule_use.RuleUse.TheVariants.{AtTwo, Cut}
use Rattle.tableau_calculus.specs.declared.rule_use.TwoPlaces.TheVariants.{Close}
use Rattle.tableau_calculus.specs.declared.refutation.Child.TheVariants as child
use Rattle.tableau_calculus.specs.declared.refutation.Line.{Line}
use Rattle.sat_base.specs.declared.literal.Var.{Var}
use Rattle.sat_base.specs.declared.literal.SatLit.{SatLit}
use Rattle.sat_base.specs.Literal.{negated, mentions_variable}
use Rattle.search_spec.specs.Numbered.{atom_at}
use Rattle.rebuild_spec.specs.Input.{Instance, Sourced, clause_by, clause_in, Input, literals_of}

-- a line is reached from the last one: it is that, or a child of one that is reached
pub data IsReached (lines : List Line) : ℕ → Type 0 where
  last : (n : ℕ) → length lines ≡ suc n → IsReached lines n
  child_of : (m n : ℕ) (l : Line) → IsReached lines m → slice_get lines m ≡ Some l → Contains l.children (child.Line n) → IsReached lines n

abbrev pub IsEachReached : List Line → Type 0
IsEachReached lines = (n : ℕ) → n < length lines → IsReached lines n

-- the variable occurs in a clause
pub record OccursInInput (input : Input) (v : Var) : Type 0 where
  pub number : ℕ
  pub clause : Sourced
  pub there : slice_get input.clauses number ≡ Some clause
  pub mentioned : mentions_variable (clause_in clause) v ≡ true

-- the atom is that of a variable that occurs in a clause
pub record IsAtomOfInput (input : Input) (atom : Lambda) : Type 0 where
  pub variable : Var
  pub same : atom ≡ atom_at input.atoms variable.0
  pub occurs : OccursInInput input variable

-- two literals of the start close each other
pub record IsClosedByStart (start : List Literal) (l : Line) : Type 0 where
  pub first : Literal
  pub second : Literal
  pub rule : l.rule ≡ AtTwo Close 0 1
  pub branch : l.branch ≡ first ∷ second ∷ []
  pub first_in : Contains start first
  pub second_in : Contains start second

-- the branch is the negations of the literals of a clause
pub record IsFromClause (input : Input) (l : Line) : Type 0 where
  pub number : ℕ
  pub clause : List SatLit
  pub instance : Instance
  pub there : slice_get input.clauses number ≡ Some (clause_by clause instance)
  pub branch : l.branch ≡ literals_of input.atoms (map negated clause)

-- Where a line of this rule comes from. A cut's atom is one of the clauses'. Any other line closes two literals of the start, or is that of
-- a clause.
abbrev pub IsFromSearchBy : PlainRule → List Literal → Input → Line → Type 0
IsFromSearchBy (Cut literal) start input l = IsAtomOfInput input literal.atom
IsFromSearchBy rule start input l = IsClosedByStart start l ⊎ IsFromClause input l

-- a line comes from the search, by its rule
abbrev pub IsFromSearch : List Literal → Input → Line → Type 0
IsFromSearch start input l = IsFromSearchBy l.rule start input l
