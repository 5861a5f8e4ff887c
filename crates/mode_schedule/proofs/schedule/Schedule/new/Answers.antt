use Rattle.std.proofs.Common.{List, ◌∷◌, [], Option, None, length, refl, sym, ap, subst, arith, length-append}
use Rattle.mode_schedule.specs.Internal.Standing.{AreNone}
use Rattle.mode_schedule.proofs.StandLaws.{fresh-more, none-last}
use Rattle.mode_schedule.proofs.schedule.Schedule.new.Goals as goal

pub loop-block-preserved : goal.loop-block-preserved
loop-block-preserved g c =
    let was = c.loop-block.invariant in
    let adds = c.in_ok-push-2.ensures.ok in
    let items = c.in_ok-push.ensures.items in
    let one : List (Option g.row.R.Denot) = None ∷ [] in
    record {
      entries = fresh-more c.args.blocks.now c.loop-block.block-index _ _ _ _ _ _ c.loop-block-test.true was.entries adds.entries (omega arith) was.pushes was.number;
      pushes = omega (arith, adds.pushes, was.pushes);
      number = omega (arith, was.number);
      places = omega (arith, was.places, ap length items, length-append c.loop-block.runs.items one);
      none = subst AreNone (sym items) (none-last c.loop-block.runs.items None was.none refl);
    }
