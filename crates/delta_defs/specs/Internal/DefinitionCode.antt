-- A definition as a pair, by which contracts may compare values that hold it.
use Rattle.std.specs.Prelude.{ℕ, refl}
use Rattle.std.specs.Coded.{Coded, code_by, coded_ℕ, coded×}
use Rattle.stt_core.specs.Lambda.{Lambda}
use Rattle.stt_core.specs.Internal.LambdaCode.{lambda_code}
use Rattle.delta_defs.specs.Definitions.{Definition}

abbrev pub definition_code : Coded Definition
definition_code =
    code_by (ℕ × Lambda) (coded× coded_ℕ lambda_code) (λ d. (d.place, d.term)) (λ p. record { place = p.0; term = p.1 }) (λ _. refl)
