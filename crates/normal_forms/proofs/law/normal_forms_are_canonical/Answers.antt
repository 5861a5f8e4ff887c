use Rattle.normal_forms.proofs.NormalValues.{canonical-normal_form}
use Rattle.normal_forms.proofs.law.normal_forms_are_canonical.Goals as goal

pub returns : goal.returns
returns c =
    λ scope ctx t ready. canonical-normal_form scope ready.scope_declared ctx ready.type t ready.ctx_declared ready.has_type
