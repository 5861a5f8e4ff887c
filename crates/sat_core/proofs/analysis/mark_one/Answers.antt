use Rattle.std.proofs.Common.{◌≡◌, ◌<◌, ◌≤◌, false, sym, ◌∙◌, arith}
use Rattle.sat_core.specs.Internal.Marks.{is_marked}
use Rattle.sat_propagate.proofs.PlaceLaws.{place_of}
use Rattle.sat_core.proofs.CountingLaws.{counted_late, counted_early}
use Rattle.sat_core.proofs.analysis.mark_one.Goals as goal

pub returns-then-start-place-clause-counted : goal.returns-then-start-place-clause-counted
returns-then-start-place-clause-counted c =
    let there = place_of c.args.trail.now.steps c.args.var c.requires.valued in
    let place_is = c.place.ensures.place there.0 there.1 there.2 there.3 in
    let late : c.args.start ≤ there.0 = omega arith in
    let unmarked : is_marked c.args.marks.now.marked c.args.var ≡ false = sym c.contains.ensures ∙ c.if-contains.false in
    (omega arith, counted_late c.args.trail.now c.args.marks.now.marked c.mark.new.self.marked c.args.var there.0 c.args.start there.1 c.place.ensures.right there.2 there.3 late unmarked c.in_ok-mark.ensures.ok)

pub returns-else-start-place-clause-counted : goal.returns-else-start-place-clause-counted
returns-else-start-place-clause-counted c =
    let there = place_of c.args.trail.now.steps c.args.var c.requires.valued in
    let place_is = c.place.ensures.place there.0 there.1 there.2 there.3 in
    let early : there.0 < c.args.start = omega arith in
    (omega arith, counted_early c.args.trail.now c.args.marks.now.marked c.mark.new.self.marked c.args.var there.0 c.args.start there.1 c.place.ensures.right there.2 there.3 early c.in_ok-mark.ensures.ok)
