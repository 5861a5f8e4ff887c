use Rattle.std.proofs.Common.{◌≡◌, ◌<◌, ◌+◌, List, length, sym, ap, ◌∙◌, subst, arith, length-append}
use Rattle.sat_base.specs.Truth.{AllTrue, assigned}
use Rattle.sat_propagate.specs.Internal.Propagator.{texts}
use Rattle.sat_propagate.specs.Internal.ClauseTable.{Watched}
use Rattle.sat_propagate.proofs.LevelLaws.{values_true}
use Rattle.sat_propagate.specs.Internal.Trail.{TrailState}
use Rattle.sat_propagate.specs.declared.trail.Step.{Step}
use Rattle.sat_propagate.proofs.TableLaws.{trail_room}
use Rattle.sat_propagate.proofs.propagator.Propagator.search.Goals as goal

pub loop-conflict-smaller : goal.loop-conflict-smaller
loop-conflict-smaller c =
    let found = c.in-Some-pick.ensures.some in
    let room : length c.propagate.new.self.trail.steps < length c.propagate.new.self.trail.phases = trail_room c.propagate.new.self.trail c.in-Some-pick.var c.len-assigned.ensures.right found.0 found.1 in
    let grew = c.propagate.ensures.grew in
    let longer : length c.propagate.new.self.trail.steps ≡ length c.loop-conflict.self.trail.steps + length grew.more =
    ap (λ (list : List Step). length list) grew.appended ∙ length-append c.loop-conflict.self.trail.steps grew.more in
    let same : length c.pick.new.self.trail.steps ≡ length c.propagate.new.self.trail.steps = ap (λ (t : TrailState). length t.steps) c.pick.ensures.trail in
    let phases : length c.pick.new.self.trail.phases ≡ length c.propagate.new.self.trail.phases = ap (λ (t : TrailState). length t.phases) c.pick.ensures.trail in
    omega (arith, c.in_ok-decide-in-Some-pick.ensures.longer, c.decide.ensures.made, grew.made_same)

pub returns-in-None-clause-full : goal.returns-in-None-clause-full
returns-in-None-clause-full c =
    let before = c.propagate.new.self in
    let after = c.pick.new.self in
    λ e. subst (λ (trail : TrailState). AllTrue (assigned trail.phases) (texts after.clauses.items)) (sym c.pick.ensures.trail)
    (subst (λ (clauses : List Watched). AllTrue (assigned before.trail.phases) (texts clauses)) (sym c.pick.ensures.clauses)
    (values_true before.trail before.processed before.clauses.items before.lists c.propagate.ensures.right c.len-assigned.ensures.right c.len-assigned.ensures.phased
    (c.in_ok-conflict.ensures.whole c.in_default.is) c.in-None.ensures.none))
