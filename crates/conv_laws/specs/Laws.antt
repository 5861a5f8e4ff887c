-- What holds of conversion, whichever the terms are.
use Rattle.std.specs.Prelude.{◌≡◌, ◌↔◌, zero, suc, List, ◌∷◌, ◌++◌, length}
use Rattle.stt_core.specs.SimpleType.{SimpleType, arrow}
use Rattle.stt_core.specs.Lambda.{Lambda, bound, lam}
use Rattle.stt_core.specs.Lift.{lift}
use Rattle.stt_core.specs.Typing.{Scope, IsScope, AreDeclared}
use Rattle.stt_core.specs.Canonical.{IsCanonical}
use Rattle.normal_forms.specs.Normal.{replace, ways, apply, eta, normal_form}
use Rattle.conv_laws.specs.Steps.{HasType, DifferByStep, AreConvertibleAt}

-- Replacing variable b by s and then variable a by r gives what replacing a by r and then b by s with r put into it gives. `front` has the
-- types of the binders that are passed, and `mid` those between b and a.
abbrev pub ReplacingCommutes : Type 0
ReplacingCommutes =
    (scope : Scope) (front mid ctx : List SimpleType) (a b d : SimpleType) (r s t : Lambda)
    → IsCanonical scope ctx a r → IsCanonical scope (mid ++ a ∷ ctx) b s → IsCanonical scope (front ++ b ∷ (mid ++ a ∷ ctx)) d t
    → replace (ways a) (length (front ++ mid)) r (replace (ways b) (length front) s t)
    ≡ replace (ways b) (length front) (replace (ways a) (length mid) r s) (replace (ways a) (suc (length (front ++ mid))) r t)

-- Putting the eta-long form of a variable in for a variable renames it.
abbrev pub EtaRenames : Type 0
EtaRenames =
    (scope : Scope) (front ctx : List SimpleType) (a b : SimpleType) (t : Lambda) → IsCanonical scope (front ++ a ∷ ctx) b t
    → replace (ways a) (length front) (eta a (bound zero)) (lift (suc (length front)) t) ≡ t

-- A canonical function is the lambda of its application to the eta-long form of the new variable.
abbrev pub FunctionsAreLambdas : Type 0
FunctionsAreLambdas =
    (scope : Scope) (ctx : List SimpleType) (a b : SimpleType) (f : Lambda) → IsCanonical scope ctx (arrow a b) f
    → lam a (apply (lift zero f) (eta a (bound zero))) ≡ f

-- A typed term is convertible with its normal form.
abbrev pub NormalFormsConvert : Type 0
NormalFormsConvert =
    (scope : Scope) → IsScope scope → (ctx : List SimpleType) → AreDeclared scope.bases ctx → (a : SimpleType) (t : Lambda)
    → HasType scope ctx a t → AreConvertibleAt scope ctx a t (normal_form scope ctx t)

-- One step between terms of one type keeps the normal form.
abbrev pub StepsKeepNormalForms : Type 0
StepsKeepNormalForms =
    (scope : Scope) → IsScope scope → (ctx : List SimpleType) → AreDeclared scope.bases ctx → (a : SimpleType) (s t : Lambda)
    → HasType scope ctx a s → HasType scope ctx a t → DifferByStep s t → normal_form scope ctx s ≡ normal_form scope ctx t

-- Two terms of one type are convertible exactly where their normal forms are the same.
abbrev pub ConvertibleTermsHaveOneNormalForm : Type 0
ConvertibleTermsHaveOneNormalForm =
    (scope : Scope) → IsScope scope → (ctx : List SimpleType) → AreDeclared scope.bases ctx → (a : SimpleType) (s t : Lambda)
    → HasType scope ctx a s → HasType scope ctx a t → AreConvertibleAt scope ctx a s t ↔ normal_form scope ctx s ≡ normal_form scope ctx t
