use Rattle.std.proofs.Common.{◌≢◌, inl, inr, get_or, IsTrue, subst, sym}
use Rattle.sat_base.specs.declared.literal.SatLit.{SatLit}
use Rattle.sat_base.specs.Literal.{holds, negated}
use Rattle.sat_propagate.specs.Internal.Trail.{literals}
use Rattle.sat_propagate.proofs.ListLaws.{held_more}
use Rattle.sat_propagate.proofs.propagator.Propagator.replacement.Goals as goal

pub loop-packed-preserved : goal.loop-packed-preserved
loop-packed-preserved c =
    let here : SatLit = get_or c.args.among.now c.loop-packed.packed-index c.packed-item.result in
    let last : here ≢ c.args.other → IsTrue (holds (literals c.args.self.now.trail.steps) (negated here)) =
    subst (λ (k : SatLit). k ≢ c.args.other → IsTrue (holds (literals c.args.self.now.trail.steps) (negated k))) c.packed-item.is (c.is_free.ensures.no c.if-is_free.false) in
    λ m h apart. elim (held_more c.args.among.now c.loop-packed.packed-index c.packed-item.result m c.loop-packed-test.true h) [
      | inl before ↦ c.loop-packed.invariant m before apart
      | inr same ↦ subst (λ (k : SatLit). k ≢ c.args.other → IsTrue (holds (literals c.args.self.now.trail.steps) (negated k))) (sym same) last apart
    ]
