use Rattle.std.proofs.Common.{◌≢◌, IsTrue, take}
use Rattle.sat_base.specs.declared.literal.SatLit.{SatLit}
use Rattle.sat_base.specs.Literal.{holds, negated}
use Rattle.sat_propagate.specs.Internal.Trail.{literals}
use Rattle.sat_propagate.proofs.propagator.Propagator.replacement.Given as goal

abbrev pub invariant-loop-packed : goal.invariant-loop-packed
invariant-loop-packed l =
    (m : SatLit) → IsTrue (holds (take l.packed-index l.among) m) → m ≢ l.other → IsTrue (holds (literals l.self.trail.steps) (negated m))
