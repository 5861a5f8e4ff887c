-- Literals and rows as pairs, by which contracts may compare values that hold them.
use Rattle.std.specs.Prelude.{Bool, refl}
use Rattle.std.specs.Coded.{Coded, code_by, coded_bool, coded×}
use Rattle.stt_core.specs.SimpleType.{SimpleType}
use Rattle.stt_core.specs.Lambda.{Lambda}
use Rattle.stt_core.specs.Internal.TypeCode.{type_code}
use Rattle.stt_core.specs.Internal.LambdaCode.{lambda_code}
use Rattle.tableau_calculus.specs.Literals.{Literal}
use Rattle.tableau_calculus.specs.Witnesses.{Row}

abbrev pub literal_code : Coded Literal
literal_code =
    code_by (Bool × Lambda) (coded× coded_bool lambda_code) (λ l. (l.positive, l.atom)) (λ p. record { positive = p.0; atom = p.1 })
    (λ _. refl)

abbrev pub row_code : Coded Row
row_code =
    code_by (SimpleType × Lambda) (coded× type_code lambda_code) (λ r. (r.type, r.predicate)) (λ p. record { type = p.0; predicate = p.1 })
    (λ _. refl)
