use Rattle.std.proofs.Common.{◌≡◌, ◌≤◌, ◌-◌, ◌++◌, length, take, drop}
use Rattle.outside.specs.Fronts.{front, behind_front}
use Rattle.mode_file.specs.Internal.Fronts.{is_in}
use Rattle.mode_file.proofs.bytes.split_front.Given as goal

abbrev pub invariant-loop-end : goal.invariant-loop-end
invariant-loop-end l = record {
  within : l.end ≤ length l.bytes;
  front_is : take l.end l.bytes ++ front (is_in l.class) (drop l.end l.bytes) ≡ front (is_in l.class) l.bytes;
  after_is : behind_front (is_in l.class) (drop l.end l.bytes) ≡ behind_front (is_in l.class) l.bytes;
}

abbrev pub decreases-loop-end : goal.decreases-loop-end
decreases-loop-end l = length l.bytes - l.end
