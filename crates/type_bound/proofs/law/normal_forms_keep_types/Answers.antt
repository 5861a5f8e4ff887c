use Rattle.type_bound.proofs.NormalLaws.{normal_forms_keep}
use Rattle.type_bound.proofs.law.normal_forms_keep_types.Goals as goal

pub returns : goal.returns
returns c = normal_forms_keep
