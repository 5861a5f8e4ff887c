use Rattle.std.proofs.Common.{◌≡◌, take}
use Rattle.refute_check.proofs.branch.listed.Given as goal

abbrev pub invariant-loop-key : goal.invariant-loop-key
invariant-loop-key l = l.numbers.items ≡ take l.key-index l.keys
