use Rattle.normal_forms.proofs.ApplyLaws.{replace-other_head}
use Rattle.normal_forms.proofs.law.other_heads_stay.Goals as goal

pub returns : goal.returns
returns c = λ a k j r us n. replace-other_head a k j r us n
