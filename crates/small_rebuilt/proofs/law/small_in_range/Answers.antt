use Rattle.small_rebuilt.proofs.RangeLaws.{in_range_small}
use Rattle.small_rebuilt.proofs.law.small_in_range.Goals as goal

pub returns : goal.returns
returns c = in_range_small
