use Rattle.normal_forms.specs.Normal.{ways}
use Rattle.normal_forms.proofs.CanonicalLaws.{keeps}
use Rattle.normal_forms.proofs.ApplyValues.{means, value-replace}
use Rattle.normal_forms.proofs.law.replacing_keeps_values.Goals as goal

pub returns : goal.returns
returns c =
    λ scope m good front ctx es env e fits a b r t hr ht.
    value-replace scope m ctx env a r (ways a) hr (keeps scope a) (means scope m good a) front es e fits b t ht
