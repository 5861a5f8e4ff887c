use Rattle.std.proofs.Common.{◌≡◌, ◌≤◌, ◌-◌, ◌++◌, length, take, drop}
use Rattle.thf_grammar.specs.Bytes.{is_word_byte}
use Rattle.outside.specs.Fronts.{front, behind_front}
use Rattle.refute_text.proofs.read_name.word.Given as goal

abbrev pub invariant-loop-end : goal.invariant-loop-end
invariant-loop-end l = record {
  within : l.end ≤ length l.bytes;
  front_is : take l.end l.bytes ++ front is_word_byte (drop l.end l.bytes) ≡ front is_word_byte l.bytes;
  after_is : behind_front is_word_byte (drop l.end l.bytes) ≡ behind_front is_word_byte l.bytes;
}

abbrev pub decreases-loop-end : goal.decreases-loop-end
decreases-loop-end l = length l.bytes - l.end
