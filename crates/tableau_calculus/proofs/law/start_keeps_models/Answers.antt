use Rattle.tableau_calculus.proofs.StartMeets.{start_met, start_typed, start_unnamed}
use Rattle.tableau_calculus.proofs.law.start_keeps_models.Goals as goal

pub returns-clause-meets : goal.returns-clause-meets
returns-clause-meets c = start_met c.args.problem.now c.requires

pub returns-clause-typed : goal.returns-clause-typed
returns-clause-typed c = start_typed c.args.problem.now c.requires

pub returns-clause-unnamed : goal.returns-clause-unnamed
returns-clause-unnamed c = start_unnamed c.args.problem.now c.requires
