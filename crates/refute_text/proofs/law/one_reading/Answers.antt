use Rattle.refute_text.proofs.ReadingLaws.{reading-same}
use Rattle.refute_text.proofs.law.one_reading.Goals as goal

pub returns : goal.returns
returns c = λ lines a b h k. reading-same lines a b h k
