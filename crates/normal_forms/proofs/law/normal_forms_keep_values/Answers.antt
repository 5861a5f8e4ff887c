use Rattle.normal_forms.proofs.NormalValues.{value-normal_form}
use Rattle.normal_forms.proofs.law.normal_forms_keep_values.Goals as goal

pub returns : goal.returns
returns c =
    λ scope ctx t ready m env good fits.
    value-normal_form scope ready.scope_declared m good ctx env ready.type t ready.ctx_declared ready.has_type fits
