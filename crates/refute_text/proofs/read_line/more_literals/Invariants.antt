use Rattle.std.proofs.Common.{length, codes}
use Rattle.refute_text.specs.Internal.Reader.{repeated_at, with_items}
use Rattle.refute_text.specs.Internal.LineReader.{literal_text_at}
use Rattle.refute_text.proofs.Repeats.{ItemsLeft}
use Rattle.refute_text.proofs.read_line.more_literals.Given as goal

abbrev pub invariant-loop-more : goal.invariant-loop-more
invariant-loop-more l = ItemsLeft (codes ",") literal_text_at l.literals l.rest (with_items l.fn.first (repeated_at (codes ",") literal_text_at (length l.bytes) l.bytes))

abbrev pub decreases-loop-more : goal.decreases-loop-more
decreases-loop-more l = length l.rest
