use Rattle.normal_forms.proofs.NormalValues.{value-apply}
use Rattle.normal_forms.proofs.law.apply_keeps_values.Goals as goal

pub returns : goal.returns
returns c =
    λ scope ctx f u h m env good fits. value-apply scope m good ctx env h.argument h.result f u fits h.function_in h.argument_in
