-- How many nodes and variables a formula has, by which its reading ends.
use Rattle.std.proofs.Common.{ℕ, ◌+◌, length}
use Rattle.thf_grammar.specs.Trees.{FormulaTree, constant, variable, truth, operator, negation, binary, equation, application, quantified, binding}

abbrev pub tree_size : FormulaTree → ℕ
tree_size (constant at name) = 1
tree_size (variable at name) = 1
tree_size (truth at value) = 1
tree_size (operator at conn) = 1
tree_size (negation at s) = 2 + tree_size s
tree_size (binary at conn s t) = 2 + (tree_size s + tree_size t)
tree_size (equation at positive s t) = 2 + (tree_size s + tree_size t)
tree_size (application at s t) = 2 + (tree_size s + tree_size t)
tree_size (quantified at all s) = 2 + tree_size s
tree_size (binding at binder vars s) = 2 + (length vars + tree_size s)
