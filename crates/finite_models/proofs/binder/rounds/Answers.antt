use Rattle.finite_models.proofs.BinderLaws.{rounds_once}
use Rattle.finite_models.proofs.binder.rounds.Goals as goal

pub returns-then-lacks : goal.returns-then-lacks
returns-then-lacks c = rounds_once c.args.size c.args.body.now c.requires (c.lacks.ensures c.if-lacks.true)
