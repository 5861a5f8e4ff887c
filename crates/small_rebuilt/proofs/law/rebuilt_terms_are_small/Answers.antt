use Rattle.small_rebuilt.proofs.SmallLaws.{rebuilt_small}
use Rattle.small_rebuilt.proofs.law.rebuilt_terms_are_small.Goals as goal

pub returns : goal.returns
returns c = rebuilt_small
