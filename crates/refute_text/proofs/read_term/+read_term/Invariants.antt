use Rattle.std.proofs.Common.{◌+◌, ◌*◌, length, codes}
use Rattle.refute_text.specs.Internal.TermReader.{arguments_at, term_text_at}
use Rattle.refute_text.proofs.Repeats.{ItemsLeft}
use Rattle.refute_text.proofs.read_term.+read_term.Given as goal

abbrev pub decreases-read_term : goal.decreases-read_term
decreases-read_term l = l.depth * 3

abbrev pub decreases-arguments : goal.decreases-arguments
decreases-arguments l = l.depth * 3 + 1

abbrev pub decreases-application : goal.decreases-application
decreases-application l = l.depth * 3 + 2

abbrev pub decreases-function : goal.decreases-function
decreases-function l = l.depth * 3 + 1

abbrev pub invariant-arguments-loop-more : goal.invariant-arguments-loop-more
invariant-arguments-loop-more l = ItemsLeft (codes " ") (term_text_at l.depth) l.terms l.rest (arguments_at (term_text_at l.depth) (length l.bytes) l.bytes)

abbrev pub decreases-arguments-loop-more : goal.decreases-arguments-loop-more
decreases-arguments-loop-more l = length l.rest
