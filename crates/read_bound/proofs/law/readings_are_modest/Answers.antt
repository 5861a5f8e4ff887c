use Rattle.read_bound.proofs.ReadLaws.{readings_modest}
use Rattle.read_bound.proofs.law.readings_are_modest.Goals as goal

pub returns : goal.returns
returns c = readings_modest
