use Rattle.refute_text.proofs.BackLaws.{as_bytes-same}
use Rattle.refute_text.proofs.law.one_refutation.Goals as goal

pub returns : goal.returns
returns c = λ r s h k e. as_bytes-same r s h k e
