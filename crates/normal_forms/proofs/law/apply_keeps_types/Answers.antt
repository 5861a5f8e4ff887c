use Rattle.normal_forms.proofs.CanonicalLaws.{canonical-apply}
use Rattle.normal_forms.proofs.law.apply_keeps_types.Goals as goal

pub returns : goal.returns
returns c = λ scope ctx f u h. canonical-apply scope ctx h.argument h.result f u h.function_in h.argument_in
