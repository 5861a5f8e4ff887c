-- A normal form is canonical, and has the type and the value of the term.
use Rattle.std.proofs.Common.{◌≡◌, ℕ, zero, List, [], ◌∷◌, Some, refl, ap, ap₂, subst, ◌∙◌, sym, true, mod-eq_of_lt}
use Rattle.std.proofs.lemmas.Bool.{and_parts}
use Rattle.stt_core.specs.SimpleType.{SimpleType, base, arrow, is_declared}
use Rattle.stt_core.specs.Lambda.{Lambda, bound, constant, lam, app}
use Rattle.stt_core.specs.Typing.{Scope, IsScope, AreDeclared, type_of}
use Rattle.stt_core.specs.Canonical.{IsCanonical, IsNeutral}
use Rattle.stt_core.specs.Digits.{entry}
use Rattle.stt_core.specs.Meaning.{Model, size, value, Fits, IsModel}
use Rattle.stt_core.proofs.DigitLaws.{table-entry, table_same}
use Rattle.stt_core.proofs.TypeLaws.{type_of-canonical, type_of-neutral, constant_declared, get_declared, applies, abstracts}
use Rattle.stt_core.proofs.ValueLaws.{size_pos, value-lt, value-lam, value-app}
use Rattle.stt_core.specs.Lift.{lift}
use Rattle.normal_forms.specs.Normal.{eta, eta_if, ways, apply, normal_form}
use Rattle.stt_core.proofs.LiftLaws.{value-lift}
use Rattle.normal_forms.proofs.CanonicalLaws.{keeps, of_neutral, neutral-lift, canonical-apply}
use Rattle.normal_forms.proofs.ApplyValues.{means, value-at}

module _ (scope : Scope) where
  pub canonical-eta : (ctx : List SimpleType) (a : SimpleType) (t : Lambda) → is_declared scope.bases a ≡ true → IsNeutral scope ctx a t → IsCanonical scope ctx a (eta a t)
  canonical-eta ctx (base n) t d h = of_neutral scope ctx (base n) t tt h
  canonical-eta ctx (arrow a b) t d h =
      let p = and_parts _ _ d in
      (p.0, (refl, canonical-eta (a ∷ ctx) b (app (lift zero t) (eta a (bound zero))) p.1 (a, neutral-lift scope [] a ctx (arrow a b) t h, canonical-eta (a ∷ ctx) a (bound zero) p.0 refl)))

  module _ (m : Model) (good : IsModel scope m) where
    -- the eta-long form keeps the value
    pub value-eta : (ctx : List SimpleType) (env : List ℕ) (a : SimpleType) (t : Lambda) → is_declared scope.bases a ≡ true → Fits m ctx env → IsNeutral scope ctx a t → value scope m ctx env (eta a t) ≡ value scope m ctx env t
    value-eta ctx env (base n) t d f h = refl
    value-eta ctx env (arrow a b) t d f h =
        let p = and_parts _ _ d in
        let var = canonical-eta (a ∷ ctx) a (bound zero) p.0 refl in
        let lifted = neutral-lift scope [] a ctx (arrow a b) t h in
        let inner : IsNeutral scope (a ∷ ctx) b (app (lift zero t) (eta a (bound zero))) = (a, lifted, var) in
        value-lam scope m ctx env a b (eta b (app (lift zero t) (eta a (bound zero)))) (type_of-canonical scope (a ∷ ctx) b (eta b (app (lift zero t) (eta a (bound zero)))) (canonical-eta (a ∷ ctx) b (app (lift zero t) (eta a (bound zero))) p.1 inner))
        ∙ table_same (size m b) (size m a) (λ x. value scope m (a ∷ ctx) (x ∷ env) (eta b (app (lift zero t) (eta a (bound zero))))) (entry (size m b) (value scope m ctx env t))
        (λ x k. value-eta (a ∷ ctx) (x ∷ env) b (app (lift zero t) (eta a (bound zero))) p.1 (k, f) inner
        ∙ value-app scope m (a ∷ ctx) (x ∷ env) a b (lift zero t) (eta a (bound zero)) (type_of-neutral scope (a ∷ ctx) (arrow a b) (lift zero t) lifted)
        ∙ ap₂ (entry (size m b)) (value-lift scope m [] [] refl a x ctx env t) (value-eta (a ∷ ctx) (x ∷ env) a (bound zero) p.0 (k, f) refl))
        ∙ table-entry (size m b) (size m a) (value scope m ctx env t) (size_pos scope m good b)
        ∙ mod-eq_of_lt (value-lt scope m good ctx env (arrow a b) t (type_of-neutral scope ctx (arrow a b) t h) f)

    -- applying has the value of the application
    pub value-apply : (ctx : List SimpleType) (env : List ℕ) (a b : SimpleType) (t u : Lambda) → Fits m ctx env → IsCanonical scope ctx (arrow a b) t → IsCanonical scope ctx a u → value scope m ctx env (apply t u) ≡ value scope m ctx env (app t u)
    value-apply ctx env a b (bound k) u f ht hu = absurd ht.0
    value-apply ctx env a b (constant c) u f ht hu = absurd ht.0
    value-apply ctx env a b (app s v) u f ht hu = absurd ht.0
    value-apply ctx env a b (lam c s) u f ht hu =
        value-at scope m good ctx env c b (ways c) s u (keeps scope c) (means scope m good c) f ht.1.1 (subst (λ x. IsCanonical scope ctx x u) ht.1.0 hu)
        ∙ sym (value-app scope m ctx env a b (lam c s) u (type_of-canonical scope ctx (arrow a b) (lam c s) ht))

  module _ (over : IsScope scope) where
    -- the normal form of a typed term is canonical, of the same type
    pub canonical-normal_form : (ctx : List SimpleType) (a : SimpleType) (t : Lambda) → AreDeclared scope.bases ctx → type_of scope ctx t ≡ Some a → IsCanonical scope ctx a (normal_form scope ctx t)
    canonical-normal_form ctx a (bound k) d h =
        subst (λ o. IsCanonical scope ctx a (eta_if o (bound k))) (sym h) (canonical-eta ctx a (bound k) (get_declared scope.bases ctx k a d h) h)
    canonical-normal_form ctx a (constant c) d h =
        subst (λ o. IsCanonical scope ctx a (eta_if o (constant c))) (sym h) (canonical-eta ctx a (constant c) (constant_declared scope over c a h) h)
    canonical-normal_form ctx a (lam c s) d h =
        let p = abstracts scope.bases c _ a h in
        subst (λ x. IsCanonical scope ctx x (normal_form scope ctx (lam c s))) (sym p.is) (p.declared, (refl, canonical-normal_form (c ∷ ctx) p.result s (p.declared, d) p.body_type))
    canonical-normal_form ctx a (app s u) d h =
        let p = applies _ _ a h in
        canonical-apply scope ctx p.argument a (normal_form scope ctx s) (normal_form scope ctx u) (canonical-normal_form ctx (arrow p.argument a) s d p.function_type) (canonical-normal_form ctx p.argument u d p.argument_type)

    module _ (m : Model) (good : IsModel scope m) where
      -- the normal form has the term's value
      pub value-normal_form : (ctx : List SimpleType) (env : List ℕ) (a : SimpleType) (t : Lambda) → AreDeclared scope.bases ctx → type_of scope ctx t ≡ Some a → Fits m ctx env → value scope m ctx env (normal_form scope ctx t) ≡ value scope m ctx env t
      value-normal_form ctx env a (bound k) d h f =
          ap (λ o. value scope m ctx env (eta_if o (bound k))) h ∙ value-eta m good ctx env a (bound k) (get_declared scope.bases ctx k a d h) f h
      value-normal_form ctx env a (constant c) d h f =
          ap (λ o. value scope m ctx env (eta_if o (constant c))) h ∙ value-eta m good ctx env a (constant c) (constant_declared scope over c a h) f h
      value-normal_form ctx env a (lam c s) d h f =
          let p = abstracts scope.bases c _ a h in
          value-lam scope m ctx env c p.result (normal_form scope (c ∷ ctx) s) (type_of-canonical scope (c ∷ ctx) p.result (normal_form scope (c ∷ ctx) s) (canonical-normal_form (c ∷ ctx) p.result s (p.declared, d) p.body_type))
          ∙ table_same (size m p.result) (size m c) _ _ (λ x k. value-normal_form (c ∷ ctx) (x ∷ env) p.result s (p.declared, d) p.body_type (k, f))
          ∙ sym (value-lam scope m ctx env c p.result s p.body_type)
      value-normal_form ctx env a (app s u) d h f =
          let p = applies _ _ a h in
          let cs = canonical-normal_form ctx (arrow p.argument a) s d p.function_type in
          value-apply m good ctx env p.argument a (normal_form scope ctx s) (normal_form scope ctx u) f cs (canonical-normal_form ctx p.argument u d p.argument_type)
          ∙ value-app scope m ctx env p.argument a (normal_form scope ctx s) (normal_form scope ctx u) (type_of-canonical scope ctx (arrow p.argument a) (normal_form scope ctx s) cs)
          ∙ ap₂ (entry (size m a)) (value-normal_form ctx env (arrow p.argument a) s d p.function_type f) (value-normal_form ctx env p.argument u d p.argument_type f)
          ∙ sym (value-app scope m ctx env p.argument a s u p.function_type)
