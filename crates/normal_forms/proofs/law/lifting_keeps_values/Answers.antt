use Rattle.stt_core.proofs.LiftLaws.{value-lift}
use Rattle.normal_forms.proofs.law.lifting_keeps_values.Goals as goal

pub returns : goal.returns
returns c = λ scope m front es e b x ctx env t. value-lift scope m front es e b x ctx env t
