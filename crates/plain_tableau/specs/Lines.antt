-- The refutation of a tree: a line for each node, after the lines of its alternatives, which stand in order.
use Rattle.std.specs.Prelude.{◌≡◌, ◌+◌, ℕ, List, [], ◌∷◌, ◌++◌, map, take}
use Rattle.stt_core.specs.Lambda.{Lambda}
use Rattle.tableau_calculus.specs.Witnesses.{Row}
use Rattle.tableau_calculus.specs.declared.refutation.Child.{Child}
use Rattle.tableau_calculus.specs.declared.refutation.Child.TheVariants.{Closed, Line as Numbered}
use Rattle.tableau_calculus.specs.declared.refutation.Line.{Line}
use Rattle.tableau_calculus.specs.declared.refutation.Refutation.{Refutation}
use Rattle.sat_base.specs.declared.literal.SatLit.{SatLit}
use Rattle.rebuild_spec.specs.Input.{literals_of}
use Rattle.rebuild_spec.specs.Stands.{rule_at_places, place_in}
use Rattle.rebuild_spec.specs.NeededRows.{rows_for_lines}
use Rattle.plain_tableau.specs.Trees.{TreeInstance, PlainTree, closed, node, PlainTrees, none, more, nodes_in, nodes_in_all}

-- the child that a tree is, where so many lines stand before its own: the last of these
abbrev pub tree_child : ℕ → PlainTree SatLit → Child
tree_child n closed = Closed
tree_child n (node i branch ts) = Numbered (n + nodes_in_all ts)

abbrev pub tree_children : ℕ → PlainTrees SatLit → List Child
tree_children n none = []
tree_children n (more t ts) = tree_child n t ∷ tree_children (n + nodes_in t) ts

-- the line of a node: its branch, its rule at the places of the principals, and its children
abbrev pub node_line : List Lambda → TreeInstance SatLit → List SatLit → List Child → Line
node_line atoms i branch children =
    record { branch = literals_of atoms branch; rule = rule_at_places i.rule (map (place_in branch) i.principals); children = children }

-- the lines of a tree, where so many stand before
abbrev mutual
  pub lines_for_tree : List Lambda → ℕ → PlainTree SatLit → List Line
  lines_for_tree atoms n closed = []
  lines_for_tree atoms n (node i branch ts) = lines_for_trees atoms n ts ++ node_line atoms i branch (tree_children n ts) ∷ []

  pub lines_for_trees : List Lambda → ℕ → PlainTrees SatLit → List Line
  lines_for_trees atoms n none = []
  lines_for_trees atoms n (more t ts) = lines_for_tree atoms n t ++ lines_for_trees atoms (n + nodes_in t) ts

-- The refutation is that of the tree: its lines are the tree's, and its rows those that they need.
pub record IsOfTree (atoms : List Lambda) (rows : List Row) (t : PlainTree SatLit) (refutation : Refutation) : Type 0 where
  pub lines : refutation.lines ≡ lines_for_tree atoms 0 t
  pub needed : refutation.witnesses ≡ take (rows_for_lines rows refutation.lines) rows
