use Rattle.std.proofs.Common.{◌-◌}
use Rattle.sat_propagate.proofs.LevelLaws.{complete_at}
use Rattle.sat_core.proofs.AnalysisSteps.{contains_at}
use Rattle.sat_core.proofs.ShortenSteps.{shortening_learns}
use Rattle.sat_core.proofs.shorten.learned_chain.Goals as goal

pub returns-clause-learned : goal.returns-clause-learned
returns-clause-learned c =
    let trail = c.args.propagator.now.trail in
    let clauses = c.args.propagator.now.clauses.items in
    let start = c.start-start.result in
    shortening_learns clauses trail c.args.names.now c.loop-i.marks.marked start c.loop-i.chain c.loop-i.invariant.shortening c.levels.ensures.right
    (complete_at trail c.args.propagator.now.processed clauses c.args.propagator.now.lists start c.requires.right c.levels.ensures.right (contains_at trail.starts (c.levels.result - 1) start c.start-start.ensures.start))
