use Rattle.type_bound.proofs.SmallLaws.{stay_small}
use Rattle.type_bound.proofs.law.runs_stay_small.Goals as goal

pub returns : goal.returns
returns c = stay_small
