-- Problems and what they declare as pairs, by which contracts may compare values that hold them.
use Rattle.std.specs.Prelude.{ℕ, Bool, List, Option, refl}
use Rattle.std.specs.Coded.{Coded, code_by, coded_ℕ, coded_bool, coded_list, coded_option, coded×}
use Rattle.stt_core.specs.SimpleType.{SimpleType}
use Rattle.stt_core.specs.Lambda.{Lambda}
use Rattle.stt_core.specs.TypedName.{TypedName}
use Rattle.stt_core.specs.Declarations.{Declarations}
use Rattle.stt_core.specs.PlainProblem.{PlainProblem}
use Rattle.stt_core.specs.Internal.TypeCode.{type_code}
use Rattle.stt_core.specs.Internal.LambdaCode.{lambda_code}

abbrev pub typed_name_code : Coded TypedName
typed_name_code =
    code_by (List ℕ × SimpleType) (coded× (coded_list coded_ℕ) type_code) (λ c. (c.name, c.type)) (λ p. record { name = p.0; type = p.1 })
    (λ _. refl)

abbrev pub declarations_code : Coded Declarations
declarations_code =
    code_by (List (List ℕ) × List TypedName) (coded× (coded_list (coded_list coded_ℕ)) (coded_list typed_name_code))
    (λ d. (d.bases, d.consts)) (λ p. record { bases = p.0; consts = p.1 }) (λ _. refl)

abbrev pub problem_code : Coded PlainProblem
problem_code =
    code_by (Declarations × (List Lambda × (List Bool × Option Lambda)))
    (coded× declarations_code (coded× (coded_list lambda_code) (coded× (coded_list coded_bool) (coded_option lambda_code))))
    (λ p. (p.declared, (p.assumed, (p.marked, p.conjecture))))
    (λ c. record { declared = c.0; assumed = c.1.0; marked = c.1.1.0; conjecture = c.1.1.1 }) (λ _. refl)
