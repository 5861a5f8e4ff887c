use Rattle.std.proofs.Common.{◌≡◌, ◌<◌, ℕ, get_or}
use Rattle.std.specs.Int.Bits.{bit_and}
use Rattle.std.specs.Int.{bit_at}
use Rattle.sat_propagate.proofs.recent.Block.has.Given as goal

abbrev pub invariant-loop-absent : goal.invariant-loop-absent
invariant-loop-absent l = (j : ℕ) → j < l.absent-index → bit_and l.bits (get_or l.self.absent j 0) ≡ 0 → bit_at l.tops 63 ≡ 1
