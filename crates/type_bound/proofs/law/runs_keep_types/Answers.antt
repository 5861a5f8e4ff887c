use Rattle.type_bound.proofs.ModestRun.{after-modest}
use Rattle.type_bound.proofs.law.runs_keep_types.Goals as goal

pub returns : goal.returns
returns c = λ limit setting start good h n s e. after-modest limit setting good start h n s e
