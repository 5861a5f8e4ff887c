use Rattle.search_spec.proofs.MatchingLaws.{found-closed}
use Rattle.search_spec.proofs.matching_law.found_terms_are_closed.Goals as goal

pub returns : goal.returns
returns c = found-closed
