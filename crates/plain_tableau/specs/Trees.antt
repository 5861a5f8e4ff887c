-- Tableaux without cut, node by node, over literals of any kind.
use Rattle.std.specs.Prelude.{◌+◌, ℕ, suc, List}
use Rattle.tableau_calculus.specs.Rules.{PlainRule}

-- An instance of a rule: the rule with what it takes, whose places don't count, its principals and its alternatives.
pub record TreeInstance (L : Type 0) : Type 0 where
  pub rule : PlainRule
  pub principals : List L
  pub alternatives : List (List L)

-- A closed branch, or a node: an instance, the branch that it is used on, and a tree for each of its alternatives.
mutual
  pub data PlainTree (L : Type 0) : Type 0 where
    closed : PlainTree L
    node : TreeInstance L → List L → PlainTrees L → PlainTree L

  pub data PlainTrees (L : Type 0) : Type 0 where
    none : PlainTrees L
    more : PlainTree L → PlainTrees L → PlainTrees L

-- how many nodes there are
abbrev mutual
  pub nodes_in : {L : Type 0} → PlainTree L → ℕ
  nodes_in closed = 0
  nodes_in (node i branch ts) = suc (nodes_in_all ts)

  pub nodes_in_all : {L : Type 0} → PlainTrees L → ℕ
  nodes_in_all none = 0
  nodes_in_all (more t ts) = nodes_in t + nodes_in_all ts
