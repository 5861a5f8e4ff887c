use Rattle.std.proofs.Common.{length}
use Rattle.mode_file.proofs.FileLaws.{IsReadTo}
use Rattle.mode_file.proofs.read_mode.Given as goal

abbrev pub invariant-loop-split : goal.invariant-loop-split
invariant-loop-split l = IsReadTo l.fn.bytes l.rest l.given l.line

abbrev pub decreases-loop-split : goal.decreases-loop-split
decreases-loop-split l = length l.rest
