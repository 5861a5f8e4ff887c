use Rattle.refute_text.proofs.BackLaws.{reads_back}
use Rattle.refute_text.proofs.law.texts_read_back.Goals as goal

pub returns : goal.returns
returns c = λ bytes r first h s. reads_back bytes r first h s
