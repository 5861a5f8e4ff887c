use Rattle.normal_forms.proofs.EtaReplace.{normal_form-canonical}
use Rattle.normal_forms.proofs.law.canonical_terms_are_normal.Goals as goal

pub returns : goal.returns
returns c = λ scope ctx a t h. normal_form-canonical scope ctx a t h
