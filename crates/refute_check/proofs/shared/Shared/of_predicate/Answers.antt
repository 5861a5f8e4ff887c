use Rattle.std.proofs.Common.{subst}
use Rattle.refute_check.specs.Numbered.{numbered_term}
use Rattle.refute_check.specs.Internal.Shared.{HasPredicate}
use Rattle.refute_check.proofs.TakingLaws.{predicate_taken}
use Rattle.refute_check.proofs.shared.Shared.of_predicate.Goals as goal

pub returns-in-Some-clause-takes : goal.returns-in-Some-clause-takes
returns-in-Some-clause-takes c = λ ls.
    let new = c.predicate.new.self in
    let f = numbered_term c.args.numbering.now c.args.predicate.now in
    let place = subst (HasPredicate new f) c.in-Some.is c.in_ok-id.ensures.place in
    (place.0, predicate_taken new ls c.args.rule c.in-Some.id f place.1)
