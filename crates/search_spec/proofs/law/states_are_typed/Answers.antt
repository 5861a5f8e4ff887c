use Rattle.search_spec.proofs.TypedCommands.{after-typed}
use Rattle.search_spec.proofs.law.states_are_typed.Goals as goal

pub returns : goal.returns
returns c = λ setting over start h n s e. after-typed setting over start h n s e
