use Rattle.prover_search.proofs.BasisLaws.{adds-unit}
use Rattle.prover_search.proofs.start.add_unit.Goals as goal

pub returns-then-not-branch-clause-unit : goal.returns-then-not-branch-clause-unit
returns-then-not-branch-clause-unit c = adds-unit c.args.lit c.args.steps.now c.start.new.self c.in_ok-start.ensures.clauses c.in_ok-start.ensures.origins c.start.ensures.instances

pub returns-clause-unit : goal.returns-clause-unit
returns-clause-unit c = adds-unit c.args.lit c.args.steps.now c.start.new.self c.in_ok-start.ensures.clauses c.in_ok-start.ensures.origins c.start.ensures.instances
