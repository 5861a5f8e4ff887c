use Rattle.std.proofs.Common.{IfOk, subst}
use Rattle.refute_check.specs.Internal.Shared.{HasPlace}
use Rattle.refute_check.proofs.shared.Shared.term.Goals as goal

pub returns-clause-place : goal.returns-clause-place
returns-clause-place c = subst (λ t. IfOk c.place_of-place.result (HasPlace c.place_of-place.new.self t)) c.in_ok-nf.ensures c.place_of-place.ensures.place
