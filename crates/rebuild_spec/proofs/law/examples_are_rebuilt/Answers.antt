use Rattle.rebuild_spec.proofs.Examples.{all_rebuilt}
use Rattle.rebuild_spec.proofs.law.examples_are_rebuilt.Goals as goal

pub returns : goal.returns
returns c = all_rebuilt
