-- What an index holds as lists of numbers, by which contracts may compare it.
use Rattle.std.specs.Prelude.{ℕ, Bool, List, refl}
use Rattle.std.specs.Coded.{Coded, code_by, coded×, coded_list, coded_ℕ, coded_bool}
use Rattle.stt_core.specs.Lambda.{Lambda}
use Rattle.stt_core.specs.Internal.LambdaCode.{lambda_code}
use Rattle.sat_base.specs.declared.literal.SatLit.{SatLit}
use Rattle.mating_rules.specs.Noted.{Signed, Notes}

abbrev pub sat_literal_code : Coded SatLit
sat_literal_code =
    code_by (ℕ × Bool) (coded× coded_ℕ coded_bool) (λ l. (l.var.0, l.positive)) (λ p. record { var = record { 0 = p.0 }; positive = p.1 })
    (λ _. refl)

abbrev pub signed_code : Coded Signed
signed_code =
    code_by (List SatLit × List SatLit) (coded× (coded_list sat_literal_code) (coded_list sat_literal_code)) (λ s. (s.positive, s.negative))
    (λ p. record { positive = p.0; negative = p.1 }) (λ _. refl)

abbrev pub notes_code : Coded Notes
notes_code =
    code_by (List SatLit × List (Lambda × Signed)) (coded× (coded_list sat_literal_code) (coded_list (coded× lambda_code signed_code)))
    (λ i. (i.noted, i.heads)) (λ p. record { noted = p.0; heads = p.1 }) (λ _. refl)
