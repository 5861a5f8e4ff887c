use Rattle.std.proofs.Common.{◌<◌, subst}
use Rattle.sat_propagate.proofs.BackLaws.{right_went_back}
use Rattle.sat_propagate.proofs.propagator.Propagator.back_to.Goals as goal

pub returns-then-levels-clause-right : goal.returns-then-levels-clause-right
returns-then-levels-clause-right c =
    right_went_back c.args.self.now.trail c.back_to.new.self c.args.self.now.processed c.args.self.now.clauses.items c.args.self.now.lists c.args.levels c.start-start.result
    c.levels.ensures.right (subst (λ n. c.args.levels < n) c.levels.ensures.number c.if-levels.true) c.start-start.ensures.start
    c.back_to.ensures.steps c.back_to.ensures.starts c.back_to.ensures.phases c.requires.right
