use Rattle.std.proofs.Common.{IfOk, subst}
use Rattle.refute_check.specs.Internal.Shared.{HasPredicate}
use Rattle.refute_check.proofs.shared.Shared.predicate.Goals as goal

pub returns-clause-place : goal.returns-clause-place
returns-clause-place c = subst (λ t. IfOk c.predicate_place-place.result (HasPredicate c.predicate_place-place.new.self t)) c.in_ok-nf.ensures c.predicate_place-place.ensures.place
