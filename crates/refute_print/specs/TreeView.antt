-- The terms of the code as plain trees.
use Rattle.refute_print.specs.Trees.{TermTree, bound, constant, lam, name, witness, falsity, negation, implication, all, equality, choice, description, applied_tree}
use Rattle.refute_print.specs.View.{the_text_type}
use Rattle.refute_print.specs.declared.tree.TextHead.{TextHead}
use Rattle.refute_print.specs.declared.tree.TextHead.TheVariants.{Bound, Name, Wit, False, Not, Imp, All, Eq, Choice, Desc}
use Rattle.refute_print.specs.declared.tree.TextNode.{TextNode}
use Rattle.refute_print.specs.declared.tree.TextNode.TheVariants.{Lam, App}

abbrev pub the_text_head : TextHead → TermTree
the_text_head (Bound k) = bound k
the_text_head (Name w) = constant (name w)
the_text_head (Wit k) = constant (witness k)
the_text_head False = constant falsity
the_text_head Not = constant negation
the_text_head Imp = constant implication
the_text_head (All a) = constant (all (the_text_type a))
the_text_head (Eq a) = constant (equality (the_text_type a))
the_text_head (Choice a) = constant (choice (the_text_type a))
the_text_head (Desc a) = constant (description (the_text_type a))

abbrev pub the_text_node : TextNode → TermTree
the_text_node (Lam a s) = lam (the_text_type a) s.value
the_text_node (App h us) = applied_tree (the_text_head h) us
