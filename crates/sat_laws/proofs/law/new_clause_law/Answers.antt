use Rattle.sat_laws.proofs.CompleteLaws.{new_by_complete}
use Rattle.sat_laws.proofs.law.new_clause_law.Goals as goal

pub returns : goal.returns
returns c = new_by_complete
