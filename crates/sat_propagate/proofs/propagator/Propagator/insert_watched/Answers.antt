use Rattle.std.proofs.Common.{sym, subst}
use Rattle.sat_propagate.specs.Internal.Trail.{literals}
use Rattle.sat_propagate.specs.Internal.Insertion.{IsSooner}
use Rattle.sat_propagate.proofs.ForcedLaws.{unit_after, sooner_take}
use Rattle.sat_propagate.proofs.propagator.Propagator.insert_watched.Goals as goal

pub push_forced-requires-clause-unit : goal.push_forced-requires-clause-unit
push_forced-requires-clause-unit c =
    let back = c.goes_back_to_unit.new.self in
    let begins = c.goes_back_to_unit.ensures.beginning in
    let yes_now = c.if-goes_back_to_unit.true in
    unit_after (literals c.args.self.now.trail.steps) (literals back.trail.steps) c.args.clause.now begins.0 c.args.first c.args.second begins.1 c.requires.first c.requires.rest
    (c.goes_back_to_unit.ensures.denied yes_now) (c.goes_back_to_unit.ensures.open yes_now)

pub push_watched-requires-clause-sooner : goal.push_watched-requires-clause-sooner
push_watched-requires-clause-sooner c =
    let begins = c.goes_back_to_unit.ensures.beginning in
    subst (λ some. IsSooner some c.args.second c.args.first) (sym begins.1) (sooner_take (literals c.args.self.now.trail.steps) begins.0 c.args.second c.args.first c.requires.sooner)
