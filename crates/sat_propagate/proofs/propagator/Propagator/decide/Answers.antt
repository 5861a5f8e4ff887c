use Rattle.sat_propagate.proofs.PropagatorLaws.{right_decided}
use Rattle.sat_propagate.proofs.propagator.Propagator.decide.Goals as goal

pub returns-clause-right : goal.returns-clause-right
returns-clause-right c =
    right_decided c.args.self.now.trail c.decide.new.self c.args.self.now.processed c.args.self.now.clauses.items c.args.self.now.lists _
    c.in_ok-decide.ensures.steps c.in_ok-decide.ensures.starts c.decide.ensures.made c.requires.whole c.requires.right
