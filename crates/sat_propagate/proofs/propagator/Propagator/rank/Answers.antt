use Rattle.sat_propagate.proofs.InsertLaws.{rank_of_place, rank_of_end, denied_mentioned}
use Rattle.std.proofs.Common.{◌∙◌, sym}
use Rattle.sat_propagate.specs.Internal.Trail.{literals}
use Rattle.sat_propagate.proofs.propagator.Propagator.rank.Goals as goal

pub place-requires : goal.place-requires
place-requires c = denied_mentioned (literals c.args.self.now.trail.steps) c.args.literal (sym c.is_false.ensures ∙ c.if-is_false.true)

pub returns-then-is_false : goal.returns-then-is_false
returns-then-is_false c = rank_of_place c.args.self.now.trail.steps c.args.literal c.place.result (sym c.is_false.ensures ∙ c.if-is_false.true) c.place.ensures.place

pub returns-else-is_false : goal.returns-else-is_false
returns-else-is_false c = rank_of_end c.args.self.now.trail.steps c.args.literal c.len.result (sym c.is_false.ensures ∙ c.if-is_false.false) c.len.ensures.number
