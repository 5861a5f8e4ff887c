use Rattle.type_bound.proofs.StartLaws.{start-keeps}
use Rattle.type_bound.proofs.law.starts_keep_types.Goals as goal

pub returns : goal.returns
returns c = start-keeps
