use Rattle.search_spec.proofs.StandardLaws.{searches-plainly}
use Rattle.search_spec.proofs.law.standard_keys_change_nothing.Goals as goal

pub returns : goal.returns
returns c = searches-plainly
