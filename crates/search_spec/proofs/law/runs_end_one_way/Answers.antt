use Rattle.search_spec.proofs.ResultLaws.{one_result}
use Rattle.search_spec.proofs.law.runs_end_one_way.Goals as goal

pub returns : goal.returns
returns c = λ setting start r r' h h'. one_result setting start r r' h h'
