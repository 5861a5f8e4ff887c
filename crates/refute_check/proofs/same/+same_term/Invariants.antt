use Rattle.std.proofs.Common.{◌≡◌, take}
use Rattle.refute_print.specs.Internal.TreeSizes.{tree_node_count, tree_node_counts}
use Rattle.refute_check.proofs.same.+same_term.Given as goal

abbrev pub decreases-same_terms : goal.decreases-same_terms
decreases-same_terms l = tree_node_counts l.left.now

abbrev pub decreases-same_term : goal.decreases-same_term
decreases-same_term l = tree_node_count l.left.now

abbrev pub invariant-same_terms-loop-i : goal.invariant-same_terms-loop-i
invariant-same_terms-loop-i l = take l.i l.left ≡ take l.i l.right
