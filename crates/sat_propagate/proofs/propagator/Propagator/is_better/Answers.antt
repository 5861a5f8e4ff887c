use Rattle.std.proofs.Common.{◌≤◌, ◌<◌, arith, subst, ◌∙◌, sym}
use Rattle.std.proofs.lemmas.Bool.{ltb-true, ltb-false}
use Rattle.std.proofs.lemmas.Option.{same_Some}
use Rattle.sat_base.specs.declared.literal.SatLit.{SatLit}
use Rattle.sat_propagate.specs.Internal.Trail.{literals}
use Rattle.sat_propagate.specs.Internal.Insertion.{IsSooner}
use Rattle.sat_propagate.proofs.InsertLaws.{sooner_by_rank}
use Rattle.sat_propagate.proofs.propagator.Propagator.is_better.Goals as goal

pub returns-in-Some-clause-yes : goal.returns-in-Some-clause-yes
returns-in-Some-clause-yes c =
    let trail = literals c.args.self.now.trail.steps in
    λ less t is.
    let h : c.rank.result < c.rank-in-Some.result = ltb-true c.rank.result c.rank-in-Some.result less in
    subst (λ (k : SatLit). IsSooner trail k c.args.literal) (same_Some c.in-Some.than t (sym c.in-Some.is ∙ is))
    (sooner_by_rank trail c.in-Some.than c.args.literal c.rank.result c.rank-in-Some.result c.rank.ensures c.rank-in-Some.ensures (omega arith))

pub returns-in-Some-clause-no : goal.returns-in-Some-clause-no
returns-in-Some-clause-no c =
    let trail = literals c.args.self.now.trail.steps in
    λ more new.
    let h : c.rank-in-Some.result ≤ c.rank.result = ltb-false c.rank.result c.rank-in-Some.result more in (
      c.in-Some.than,
      c.in-Some.is,
      sooner_by_rank trail c.args.literal c.in-Some.than c.rank-in-Some.result c.rank.result c.rank-in-Some.ensures c.rank.ensures h,
    )
