-- What a bank holds as pairs, by which contracts may compare values that hold it.
use Rattle.std.specs.Prelude.{ℕ, List, refl}
use Rattle.std.specs.Coded.{Coded, code_by, coded×, coded_ℕ, coded_list}
use Rattle.stt_core.specs.SimpleType.{SimpleType}
use Rattle.stt_core.specs.Lambda.{Lambda}
use Rattle.stt_core.specs.TypedName.{TypedName}
use Rattle.stt_core.specs.Internal.TypeCode.{type_code}
use Rattle.stt_core.specs.Internal.LambdaCode.{lambda_code}
use Rattle.stt_core.specs.Internal.ProblemCode.{typed_name_code}
use Rattle.term_bank.specs.Content.{Content}

abbrev pub content_code : Coded Content
content_code =
    code_by (List (List ℕ) × (List TypedName × (List SimpleType × List Lambda)))
    (coded× (coded_list (coded_list coded_ℕ))
    (coded× (coded_list typed_name_code) (coded× (coded_list type_code) (coded_list lambda_code))))
    (λ b. (b.bases, (b.consts, (b.witnesses, b.terms))))
    (λ p. record { bases = p.0; consts = p.1.0; witnesses = p.1.1.0; terms = p.1.1.1 })
    (λ _. refl)
