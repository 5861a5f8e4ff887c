use Rattle.std.proofs.Common.{◌≡◌, ◌≤◌, ◌-◌, ◌++◌, length, take, drop}
use Rattle.refute_text.specs.Internal.Reader.{is_no_feed}
use Rattle.outside.specs.Fronts.{front, behind_front}
use Rattle.refute_text.proofs.lines.until_feed.Given as goal

abbrev pub invariant-loop-end : goal.invariant-loop-end
invariant-loop-end l = record {
  within : l.end ≤ length l.bytes;
  front_is : take l.end l.bytes ++ front is_no_feed (drop l.end l.bytes) ≡ front is_no_feed l.bytes;
  after_is : behind_front is_no_feed (drop l.end l.bytes) ≡ behind_front is_no_feed l.bytes;
}

abbrev pub decreases-loop-end : goal.decreases-loop-end
decreases-loop-end l = length l.bytes - l.end
