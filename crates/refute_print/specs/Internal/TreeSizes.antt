-- The sizes of terms.
use Rattle.std.specs.Prelude.{◌≡◌, ℕ, suc, ◌+◌, ◌≤◌, List, [], ◌∷◌}
use Rattle.std.proofs.Common.{arith}
use denote.Param.Weighed.{most}
use Rattle.refute_print.specs.Trees.{TermTree, bound, constant, lam, app, applied_tree}

-- how many nodes a term has, and a list of terms, with the number of the terms
abbrev pub tree_node_count : TermTree → ℕ
tree_node_count (bound k) = 1
tree_node_count (constant c) = 1
tree_node_count (lam a s) = suc (tree_node_count s)
tree_node_count (app s u) = suc (tree_node_count s + tree_node_count u)

abbrev pub tree_node_counts : List TermTree → ℕ
tree_node_counts [] = 0
tree_node_counts (t ∷ ts) = suc (tree_node_count t + tree_node_counts ts)

pub tree_node_count-applied :
    (t : TermTree) (us : List TermTree) → tree_node_count (applied_tree t us) ≡ tree_node_count t + tree_node_counts us
tree_node_count-applied t [] = omega arith
tree_node_count-applied t (u ∷ us) = omega (arith, tree_node_count-applied (app t u) us)

node_count_pos : (t : TermTree) → 1 ≤ tree_node_count t
node_count_pos (bound k) = omega arith
node_count_pos (constant c) = omega arith
node_count_pos (lam a s) = omega arith
node_count_pos (app s u) = omega arith

pub applied_falls : (t : TermTree) (us : List TermTree) → tree_node_counts us + 1 ≤ tree_node_count (applied_tree t us)
applied_falls t us = omega (arith, tree_node_count-applied t us, node_count_pos t)

pub terms_fall : (ts : List TermTree) → most (λ t. tree_node_count t + 1) ts ≤ tree_node_counts ts
terms_fall [] = omega arith
terms_fall (t ∷ ts) = omega (arith, terms_fall ts)
