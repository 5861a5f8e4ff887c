use Rattle.std.proofs.Common.{◌≡◌, ◌≤◌, ◌-◌, ◌++◌, length, take, drop}
use Rattle.outside.specs.Fronts.{front, behind_front}
use Rattle.outside.specs.Decimal.{is_digit}
use Rattle.refute_text.proofs.read_name.digits.Given as goal

abbrev pub invariant-loop-end : goal.invariant-loop-end
invariant-loop-end l = record {
  within : l.end ≤ length l.bytes;
  front_is : take l.end l.bytes ++ front is_digit (drop l.end l.bytes) ≡ front is_digit l.bytes;
  after_is : behind_front is_digit (drop l.end l.bytes) ≡ behind_front is_digit l.bytes;
}

abbrev pub decreases-loop-end : goal.decreases-loop-end
decreases-loop-end l = length l.bytes - l.end
