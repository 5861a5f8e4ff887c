-- The hole of a predicate on individuals.
use Rattle.std.specs.Prelude.{◌≡◌, [], ◌∷◌, Option, Some, None, IsSome, refl}
use Rattle.std.proofs.Common.{sym, subst}
use Rattle.stt_core.specs.SimpleType.{SimpleType, arrow, formula}
use Rattle.stt_core.specs.Lambda.{Lambda}
use Rattle.stt_core.specs.Typing.{Scope, type_of}
use Rattle.search_spec.specs.Partial.{Partial, blank_partial}
use Rattle.search_spec.proofs.PartialLaws.{blank_typed}
use Rattle.instantiate.specs.Growing.{IsTypedPartialTerm, TakesHead}
use Rattle.instantiate.specs.Internal.Cases.{individual, one_constant}

pub hole_typed : (scope : Scope) (p : Partial) → scope ≡ one_constant → p ≡ blank_partial (arrow individual formula) → IsTypedPartialTerm scope p
hole_typed scope p e f =
    let OfScope : Scope → Type 0 = λ s. IsTypedPartialTerm s p in
    let OfPartial : Partial → Type 0 = λ q. IsTypedPartialTerm one_constant q in
    subst OfScope (sym e) (subst OfPartial (sym f) (record { type = arrow individual formula; sketch = record { declared = refl; typed = blank_typed one_constant [] (arrow individual formula) refl } }))

pub hole_takes : (scope : Scope) (p : Partial) (h : Lambda) → scope ≡ one_constant → p ≡ blank_partial (arrow individual formula) → IsSome (type_of one_constant (individual ∷ []) h) → TakesHead scope p h
hole_takes scope p h e f some =
    let OfScope : Scope → Type 0 = λ s. TakesHead s p h in
    let OfPartial : Partial → Type 0 = λ q. TakesHead one_constant q h in
    subst OfScope (sym e) (subst OfPartial (sym f) (go (type_of one_constant (individual ∷ []) h) refl some))
  where
    go : (o : Option SimpleType) → type_of one_constant (individual ∷ []) h ≡ o → IsSome o → TakesHead one_constant (blank_partial (arrow individual formula)) h
    go (Some a) t s = record { hole = record { base = 0; context = individual ∷ [] }; is_first = refl; type = a; has_type = t }
    go None t s = cc
