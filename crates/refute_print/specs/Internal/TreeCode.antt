-- A term as a list of nodes, by which contracts may compare values that hold terms: the parts before the whole. A node is its kind,
-- a number, a name and a type.
use Rattle.std.specs.Prelude.{◌≡◌, ℕ, zero, suc, List, [], ◌∷◌, refl}
use Rattle.std.proofs.Common.{ap, ◌∙◌}
use Rattle.std.specs.Coded.{Coded, code_by, coded_ℕ, coded_list, coded×}
use Rattle.refute_print.specs.Trees.{TextTypeTree, formula, individual, named, arrow, ConstantTree, name, witness, falsity, negation, implication, all, equality, choice, description, TermTree, bound, constant, lam, app}

abbrev pub type_nodes : TextTypeTree → List (ℕ × List ℕ) → List (ℕ × List ℕ)
type_nodes formula rest = (0, []) ∷ rest
type_nodes individual rest = (1, []) ∷ rest
type_nodes (named w) rest = (2, w) ∷ rest
type_nodes (arrow a b) rest = type_nodes a (type_nodes b ((3, []) ∷ rest))

abbrev pub join_types : List TextTypeTree → List TextTypeTree
join_types [] = []
join_types (b ∷ []) = []
join_types (b ∷ a ∷ stack) = arrow a b ∷ stack

abbrev pub read_type_node : ℕ → List ℕ → List TextTypeTree → List TextTypeTree
read_type_node zero w stack = formula ∷ stack
read_type_node (suc zero) w stack = individual ∷ stack
read_type_node (suc (suc zero)) w stack = named w ∷ stack
read_type_node (suc (suc (suc n))) w stack = join_types stack

abbrev pub read_type_nodes : List (ℕ × List ℕ) → List TextTypeTree → List TextTypeTree
read_type_nodes [] stack = stack
read_type_nodes (n ∷ ns) stack = read_type_nodes ns (read_type_node n.0 n.1 stack)

abbrev pub top_type : List TextTypeTree → TextTypeTree
top_type [] = formula
top_type (a ∷ stack) = a

pub read-type_nodes :
    (a : TextTypeTree) (rest : List (ℕ × List ℕ)) (stack : List TextTypeTree)
    → read_type_nodes (type_nodes a rest) stack ≡ read_type_nodes rest (a ∷ stack)
read-type_nodes formula rest stack = refl
read-type_nodes individual rest stack = refl
read-type_nodes (named w) rest stack = refl
read-type_nodes (arrow a b) rest stack =
    read-type_nodes a (type_nodes b ((3, []) ∷ rest)) stack ∙ read-type_nodes b ((3, []) ∷ rest) (a ∷ stack)

abbrev pub type_tree_code : Coded TextTypeTree
type_tree_code =
    code_by (List (ℕ × List ℕ)) (coded_list (coded× coded_ℕ (coded_list coded_ℕ))) (λ a. type_nodes a [])
    (λ ns. top_type (read_type_nodes ns [])) (λ a. ap top_type (read-type_nodes a [] []))

abbrev pub TreeLabel : Type 0
TreeLabel = ℕ × (ℕ × (List ℕ × TextTypeTree))

abbrev pub constant_tree_label : ConstantTree → TreeLabel
constant_tree_label (name w) = (0, (0, (w, formula)))
constant_tree_label (witness k) = (1, (k, ([], formula)))
constant_tree_label falsity = (2, (0, ([], formula)))
constant_tree_label negation = (3, (0, ([], formula)))
constant_tree_label implication = (4, (0, ([], formula)))
constant_tree_label (all a) = (5, (0, ([], a)))
constant_tree_label (equality a) = (6, (0, ([], a)))
constant_tree_label (choice a) = (7, (0, ([], a)))
constant_tree_label (description a) = (8, (0, ([], a)))

abbrev pub tree_labels : TermTree → List TreeLabel → List TreeLabel
tree_labels (constant c) rest = constant_tree_label c ∷ rest
tree_labels (bound k) rest = (9, (k, ([], formula))) ∷ rest
tree_labels (lam a s) rest = tree_labels s ((10, (0, ([], a))) ∷ rest)
tree_labels (app s u) rest = tree_labels s (tree_labels u ((11, (0, ([], formula))) ∷ rest))

abbrev pub bind_tree : TextTypeTree → List TermTree → List TermTree
bind_tree a [] = []
bind_tree a (s ∷ stack) = lam a s ∷ stack

abbrev pub join_trees : List TermTree → List TermTree
join_trees [] = []
join_trees (u ∷ []) = []
join_trees (u ∷ s ∷ stack) = app s u ∷ stack

abbrev pub read_tree_label : ℕ → ℕ → List ℕ → TextTypeTree → List TermTree → List TermTree
read_tree_label zero k w a stack = constant (name w) ∷ stack
read_tree_label (suc zero) k w a stack = constant (witness k) ∷ stack
read_tree_label (suc (suc zero)) k w a stack = constant falsity ∷ stack
read_tree_label (suc (suc (suc zero))) k w a stack = constant negation ∷ stack
read_tree_label (suc (suc (suc (suc zero)))) k w a stack = constant implication ∷ stack
read_tree_label (suc (suc (suc (suc (suc zero))))) k w a stack = constant (all a) ∷ stack
read_tree_label (suc (suc (suc (suc (suc (suc zero)))))) k w a stack = constant (equality a) ∷ stack
read_tree_label (suc (suc (suc (suc (suc (suc (suc zero))))))) k w a stack = constant (choice a) ∷ stack
read_tree_label (suc (suc (suc (suc (suc (suc (suc (suc zero)))))))) k w a stack = constant (description a) ∷ stack
read_tree_label (suc (suc (suc (suc (suc (suc (suc (suc (suc zero))))))))) k w a stack = bound k ∷ stack
read_tree_label (suc (suc (suc (suc (suc (suc (suc (suc (suc (suc zero)))))))))) k w a stack = bind_tree a stack
read_tree_label (suc (suc (suc (suc (suc (suc (suc (suc (suc (suc (suc n))))))))))) k w a stack = join_trees stack

abbrev pub read_tree_labels : List TreeLabel → List TermTree → List TermTree
read_tree_labels [] stack = stack
read_tree_labels (n ∷ ns) stack = read_tree_labels ns (read_tree_label n.0 n.1.0 n.1.1.0 n.1.1.1 stack)

abbrev pub top_tree : List TermTree → TermTree
top_tree [] = bound 0
top_tree (t ∷ stack) = t

read_constant_node :
    (c : ConstantTree) (rest : List TreeLabel) (stack : List TermTree)
    → read_tree_labels (constant_tree_label c ∷ rest) stack ≡ read_tree_labels rest (constant c ∷ stack)
read_constant_node (name w) rest stack = refl
read_constant_node (witness k) rest stack = refl
read_constant_node falsity rest stack = refl
read_constant_node negation rest stack = refl
read_constant_node implication rest stack = refl
read_constant_node (all a) rest stack = refl
read_constant_node (equality a) rest stack = refl
read_constant_node (choice a) rest stack = refl
read_constant_node (description a) rest stack = refl

pub read-tree_labels :
    (t : TermTree) (rest : List TreeLabel) (stack : List TermTree)
    → read_tree_labels (tree_labels t rest) stack ≡ read_tree_labels rest (t ∷ stack)
read-tree_labels (constant c) rest stack = read_constant_node c rest stack
read-tree_labels (bound k) rest stack = refl
read-tree_labels (lam a s) rest stack = read-tree_labels s ((10, (0, ([], a))) ∷ rest) stack
read-tree_labels (app s u) rest stack =
    read-tree_labels s (tree_labels u ((11, (0, ([], formula))) ∷ rest)) stack
    ∙ read-tree_labels u ((11, (0, ([], formula))) ∷ rest) (s ∷ stack)

abbrev pub term_tree_code : Coded TermTree
term_tree_code =
    code_by (List TreeLabel) (coded_list (coded× coded_ℕ (coded× coded_ℕ (coded× (coded_list coded_ℕ) type_tree_code))))
    (λ t. tree_labels t []) (λ ns. top_tree (read_tree_labels ns [])) (λ t. ap top_tree (read-tree_labels t [] []))
