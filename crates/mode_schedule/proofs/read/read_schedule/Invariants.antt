use Rattle.std.proofs.Common.{length}
use Rattle.mode_schedule.proofs.BlockLaws.{IsReadTo}
use Rattle.mode_schedule.proofs.read.read_schedule.Given as goal

abbrev pub invariant-loop-split : goal.invariant-loop-split
invariant-loop-split l = IsReadTo l.fn.bytes l.rest l.found.items l.line

abbrev pub decreases-loop-split : goal.decreases-loop-split
decreases-loop-split l = length l.rest
