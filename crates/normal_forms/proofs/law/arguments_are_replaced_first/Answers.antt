use Rattle.normal_forms.proofs.ApplyLaws.{replace-head}
use Rattle.normal_forms.proofs.law.arguments_are_replaced_first.Goals as goal

pub returns : goal.returns
returns c = λ scope front ctx a r us h fit. replace-head scope front ctx a r us h fit
