use Rattle.std.proofs.Common.{◌+◌, length}
use Rattle.thf_grammar.specs.View.{the_formula}
use Rattle.type_check.proofs.TreeSizes.{tree_size}
use Rattle.type_check.proofs.terms.+terms.Given as goal

abbrev pub decreases-read_term : goal.decreases-read_term
decreases-read_term l = tree_size (the_formula l.tree.now)

abbrev pub decreases-read_negated : goal.decreases-read_negated
decreases-read_negated l = tree_size (the_formula l.body.now) + 1

abbrev pub decreases-read_infix : goal.decreases-read_infix
decreases-read_infix l = tree_size (the_formula l.left.now) + tree_size (the_formula l.right.now) + 1

abbrev pub decreases-read_quantified : goal.decreases-read_quantified
decreases-read_quantified l = tree_size (the_formula l.predicate.now) + 1

abbrev pub decreases-read_binder : goal.decreases-read_binder
decreases-read_binder l = length l.vars.now + tree_size (the_formula l.body.now) + 1
