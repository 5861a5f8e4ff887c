use Rattle.search_spec.proofs.ClosedLaws.{closed_is, is_closed-of}
use Rattle.search_spec.proofs.law.closed_terms_are_told.Goals as goal

pub returns : goal.returns
returns c = λ t. (closed_is t, is_closed-of t)
