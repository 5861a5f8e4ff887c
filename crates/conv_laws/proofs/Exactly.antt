-- Typed terms are convertible exactly where their normal forms are the same.
use Rattle.std.proofs.Common.{◌≡◌, ◌↔◌, List, [], Bool, sym, subst, ◌∙◌}
use Rattle.std.specs.Prelude.{IsTrue}
use Rattle.stt_core.specs.SimpleType.{SimpleType}
use Rattle.stt_core.specs.Lambda.{Lambda}
use Rattle.stt_core.specs.Typing.{Scope, IsScope, AreDeclared}
use Rattle.normal_forms.specs.Normal.{normal_form}
use Rattle.conv_laws.specs.Steps.{HasType, HaveOneType, AreConvertibleAt, AreConvertible}
use Rattle.conv_laws.proofs.Steps.{lead_keeps}
use Rattle.conv_laws.proofs.Chains.{then_converts, back_converts}
use Rattle.conv_laws.proofs.Conversions.{normal_form_converts}

module _ (scope : Scope) (over : IsScope scope) (ctx : List SimpleType) (d : AreDeclared scope.bases ctx) where
  pub exactly_at : (a : SimpleType) (s t : Lambda) → HasType scope ctx a s → HasType scope ctx a t → AreConvertibleAt scope ctx a s t ↔ normal_form scope ctx s ≡ normal_form scope ctx t
  exactly_at a s t h k = (
    λ c. lead_keeps scope over ctx a s c.others t d h c.lead,
    λ e.
        then_converts scope ctx a s (normal_form scope ctx s) t (normal_form_converts scope over ctx a s d h)
        (subst (λ x. AreConvertibleAt scope ctx a x t) (sym e) (back_converts scope ctx a t (normal_form scope ctx t) (normal_form_converts scope over ctx a t d k))),
  )

  pub exactly : (s t : Lambda) → HaveOneType scope ctx s t → AreConvertible scope ctx s t ↔ normal_form scope ctx s ≡ normal_form scope ctx t
  exactly s t h = (
    λ c. lead_keeps scope over ctx c.type s c.holds.others t d c.holds.first c.holds.lead,
    λ e. record { type = h.type; holds = (exactly_at h.type s t h.first h.second).1 e },
  )

  pub converts : (a : SimpleType) (t : Lambda) → HasType scope ctx a t → AreConvertible scope ctx t (normal_form scope ctx t)
  converts a t h = record { type = a; holds = normal_form_converts scope over ctx a t d h }

-- the answer of a test of the normal forms
pub tested : (scope : Scope) (over : IsScope scope) (s t n m : Lambda) (r : Bool) → HaveOneType scope [] s t → n ≡ normal_form scope [] s → m ≡ normal_form scope [] t → (IsTrue r ↔ n ≡ m) → IsTrue r ↔ AreConvertible scope [] s t
tested scope over s t n m r h e q k =
    let x = exactly scope over [] tt s t h in
    (λ i. x.1 (sym e ∙ k.0 i ∙ q), λ c. k.1 (e ∙ x.0 c ∙ sym q))
