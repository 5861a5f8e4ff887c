use Rattle.std.proofs.Common.{◌≡◌, drop}
use Rattle.std.specs.Prelude.{fold}
use Rattle.term_bank.specs.Internal.ShapeHash.{mixed}
use Rattle.term_bank.proofs.key.spine_number.Given as goal

abbrev pub invariant-loop-i : goal.invariant-loop-i
invariant-loop-i l = fold mixed l.number (drop l.i l.args) ≡ fold mixed l.head l.args
