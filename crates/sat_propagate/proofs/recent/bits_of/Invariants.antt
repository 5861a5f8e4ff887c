use Rattle.std.proofs.Common.{◌≡◌, take}
use Rattle.sat_propagate.specs.Internal.Recent.{signature}
use Rattle.sat_propagate.proofs.recent.bits_of.Given as goal

abbrev pub invariant-loop-literal : goal.invariant-loop-literal
invariant-loop-literal l = l.bits ≡ signature (take l.literal-index l.literals)
