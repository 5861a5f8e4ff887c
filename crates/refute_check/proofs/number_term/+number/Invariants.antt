use Rattle.std.proofs.Common.{◌≡◌, map, take}
use Rattle.refute_print.specs.Internal.TreeSizes.{tree_node_count, tree_node_counts}
use Rattle.refute_check.specs.Numbered.{numbered_term}
use Rattle.refute_check.proofs.number_term.+number.Given as goal

abbrev pub decreases-number_terms : goal.decreases-number_terms
decreases-number_terms l = tree_node_counts l.terms.now

abbrev pub decreases-number_under : goal.decreases-number_under
decreases-number_under l = tree_node_count l.term.now

abbrev pub invariant-number_terms-loop-i : goal.invariant-number_terms-loop-i
invariant-number_terms-loop-i l = l.nfs ≡ map (numbered_term l.numbering) (take l.i l.terms)
