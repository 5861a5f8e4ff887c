-- Refutations as they are written: trees whose names are bytes.
use Rattle.std.specs.Prelude.{ℕ, Bool, List, [], ◌∷◌}
use Rattle.tableau_calculus.specs.declared.refutation.Child.{Child}
use Rattle.tableau_calculus.specs.declared.rule_use.RuleUse.{RuleUse}

-- `$o`, `$i`, a base type by its name, or the functions from the first type to the second
pub data TextTypeTree : Type 0 where
  formula : TextTypeTree
  individual : TextTypeTree
  named : List ℕ → TextTypeTree
  arrow : TextTypeTree → TextTypeTree → TextTypeTree

-- a constant by its name, a witness by its number, falsity, negation, implication, and for each type the quantifier over it, the
-- equality on it, the choice from it and the description of its values
pub data ConstantTree : Type 0 where
  name : List ℕ → ConstantTree
  witness : ℕ → ConstantTree
  falsity : ConstantTree
  negation : ConstantTree
  implication : ConstantTree
  all : TextTypeTree → ConstantTree
  equality : TextTypeTree → ConstantTree
  choice : TextTypeTree → ConstantTree
  description : TextTypeTree → ConstantTree

-- a bound variable, which counts the binders between it and its own, a constant, a function, whose argument has the given type, or an
-- application
pub data TermTree : Type 0 where
  bound : ℕ → TermTree
  constant : ConstantTree → TermTree
  lam : TextTypeTree → TermTree → TermTree
  app : TermTree → TermTree → TermTree

-- a term applied to arguments, first one first
abbrev pub applied_tree : TermTree → List TermTree → TermTree
applied_tree t [] = t
applied_tree t (u ∷ us) = applied_tree (app t u) us

-- a formula with a sign
pub record LiteralTree : Type 0 where
  pub positive : Bool
  pub atom : TermTree

-- a branch, the rule that closes it with what its instance takes, where a place counts from 0, and the children
pub record LineTree : Type 0 where
  pub branch : List LiteralTree
  pub rule : RuleUse ℕ TermTree LiteralTree
  pub children : List Child

-- the names whose definitions are unfolded, the predicates of the witness rows, and the lines
pub record RefutationTree : Type 0 where
  pub names : List (List ℕ)
  pub rows : List TermTree
  pub lines : List LineTree
