use Rattle.std.proofs.Common.{◌≤◌, ◌+◌, length}
use Rattle.refute_text.proofs.Passes.{PassedOver}
use Rattle.refute_text.proofs.lines.behind_start.Given as goal

abbrev pub invariant-loop-cut : goal.invariant-loop-cut
invariant-loop-cut l = record {
  passed : PassedOver l.bytes l.rest l.line;
  room : l.line + length l.rest ≤ length l.bytes + 1;
}

abbrev pub decreases-loop-cut : goal.decreases-loop-cut
decreases-loop-cut l = length l.rest
