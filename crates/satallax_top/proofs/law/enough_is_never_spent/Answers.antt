use Rattle.cli_words.specs.Requests.{asked_by}
use Rattle.satallax_top.proofs.HeadlineLaws.{never_spent}
use Rattle.satallax_top.proofs.law.enough_is_never_spent.Goals as goal

pub returns : goal.returns
returns c = λ words seen conflicts enough answer. never_spent (asked_by words) seen conflicts enough answer
