use Rattle.std.proofs.Common.{IsTrue, take}
use Rattle.sat_base.specs.declared.literal.SatLit.{SatLit}
use Rattle.sat_base.specs.Literal.{holds}
use Rattle.sat_propagate.proofs.part.are_among.Given as goal

abbrev pub invariant-loop-literal : goal.invariant-loop-literal
invariant-loop-literal l = (k : SatLit) → IsTrue (holds (take l.literal-index l.some) k) → IsTrue (holds l.clause k)
