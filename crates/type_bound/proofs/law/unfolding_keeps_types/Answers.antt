use Rattle.type_bound.proofs.UnfoldLaws.{unfolding-keeps}
use Rattle.type_bound.proofs.law.unfolding_keeps_types.Goals as goal

pub returns : goal.returns
returns c = unfolding-keeps
