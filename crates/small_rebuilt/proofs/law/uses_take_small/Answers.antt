use Rattle.small_rebuilt.proofs.RangeLaws.{uses_small}
use Rattle.small_rebuilt.proofs.law.uses_take_small.Goals as goal

pub returns : goal.returns
returns c = uses_small
