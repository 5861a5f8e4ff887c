use Rattle.std.proofs.Common.{map, take}
use Rattle.term_bank.proofs.TreeLaws.{AreImported}
use Rattle.instantiate.specs.Internal.PartialSizes.{partial_node_count, partial_node_counts}
use Rattle.instantiate.specs.Internal.Blanks.{term_of}
use Rattle.instantiate.proofs.whole.+intern.Given as goal

abbrev pub decreases-intern : goal.decreases-intern
decreases-intern l = partial_node_count l.partial.now

abbrev pub decreases-intern_all : goal.decreases-intern_all
decreases-intern_all l = partial_node_counts l.partials.now

abbrev pub invariant-intern_all-loop-i : goal.invariant-intern_all-loop-i
invariant-intern_all-loop-i l = AreImported l.fn.bank l.bank (take l.i (map term_of l.partials)) l.ids
