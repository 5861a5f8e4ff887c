use Rattle.std.proofs.Common.{◌<◌, arith}
use Rattle.sat_propagate.proofs.InsertLaws.{starts_before, later_start}
use Rattle.sat_propagate.proofs.propagator.Propagator.level_of.Goals as goal

pub returns-then-start-place-clause-earlier : goal.returns-then-start-place-clause-earlier
returns-then-start-place-clause-earlier c =
    starts_before c.args.self.now.trail c.loop-level.level c.start.result c.args.place c.levels-level.ensures.right c.loop-level-test.true c.start.ensures.start c.if-start-place.true

pub loop-level-preserved : goal.loop-level-preserved
loop-level-preserved c =
    let after_place : c.args.place < c.start.result = omega (arith, c.if-start-place.false) in
    record {
      within = omega (arith, c.loop-level.invariant.within);
      later = λ h. later_start c.args.self.now.trail.starts c.loop-level.level c.start.result c.args.place c.loop-level-test.true c.start.ensures.start after_place;
    }
