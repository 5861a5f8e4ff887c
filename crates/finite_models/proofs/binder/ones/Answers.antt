use Rattle.finite_models.proofs.BinderLaws.{ones_of_one}
use Rattle.finite_models.proofs.binder.ones.Goals as goal

pub returns-then-base-eq1 : goal.returns-then-base-eq1
returns-then-base-eq1 c = ones_of_one c.args.base c.args.entries c.if-base-eq1.true
