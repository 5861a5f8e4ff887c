use Rattle.type_bound.proofs.FlatRun.{after-flat}
use Rattle.type_bound.proofs.law.runs_stay_flat.Goals as goal

pub returns : goal.returns
returns c = after-flat
