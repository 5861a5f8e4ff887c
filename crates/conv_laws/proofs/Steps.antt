-- One step keeps the normal form.
use Rattle.std.proofs.Common.{◌≡◌, zero, List, [], ◌∷◌, Some, inl, inr, sym, ap, ◌∙◌}
use Rattle.stt_core.specs.SimpleType.{SimpleType, arrow}
use Rattle.stt_core.specs.Lambda.{Lambda, bound, lam}
use Rattle.stt_core.specs.Typing.{Scope, IsScope, AreDeclared, type_of}
use Rattle.stt_core.proofs.LiftLaws.{type_of-lift}
use Rattle.stt_core.proofs.TypeLaws.{applies, abstracts}
use Rattle.normal_forms.specs.Normal.{apply, eta, normal_form}
use Rattle.normal_forms.proofs.NormalValues.{canonical-normal_form}
use Rattle.conv_laws.specs.Steps.{ReducesTo, by_beta, by_eta, in_body, in_function, in_argument, DifferByStep, HasType, Lead}
use Rattle.conv_laws.proofs.Renames.{function_is_lambda}
use Rattle.conv_laws.proofs.Substitutes.{normal_form-lift, normal_form-substitute}

module _ (scope : Scope) (over : IsScope scope) where
  reduced : (ctx : List SimpleType) (a : SimpleType) (s t : Lambda) → AreDeclared scope.bases ctx → HasType scope ctx a s → ReducesTo s t → normal_form scope ctx s ≡ normal_form scope ctx t
  reduced ctx a s t d h (by_beta c g u) =
      let p = applies _ _ a h in
      let q = abstracts scope.bases c _ (arrow p.argument a) p.function_type in
      let q_is = q.is in
      let e : p.argument ≡ c = cc in
      sym (normal_form-substitute scope over ctx c u d (p.argument_type ∙ ap Some e) [] q.result g (q.declared, d) q.body_type)
  reduced ctx a s t d h (by_eta c f) =
      let q = abstracts scope.bases c _ a h in
      let p = applies _ _ q.result q.body_type in
      let p_is = p.argument_type in
      let e : p.argument ≡ c = cc in
      let typed : type_of scope ctx f ≡ Some (arrow c q.result) = sym (type_of-lift scope [] c ctx f) ∙ p.function_type ∙ ap (λ x. Some (arrow x q.result)) e in
      ap (λ x. lam c (apply x (eta c (bound zero)))) (normal_form-lift scope [] c ctx f)
      ∙ function_is_lambda scope ctx c q.result (normal_form scope ctx f) (canonical-normal_form scope over ctx (arrow c q.result) f d typed)
  reduced ctx a s t d h (in_body c g g' k) =
      let q = abstracts scope.bases c _ a h in
      ap (lam c) (reduced (c ∷ ctx) q.result g g' (q.declared, d) q.body_type k)
  reduced ctx a s t d h (in_function f f' u k) =
      let p = applies _ _ a h in
      ap (λ x. apply x (normal_form scope ctx u)) (reduced ctx (arrow p.argument a) f f' d p.function_type k)
  reduced ctx a s t d h (in_argument f u u' k) =
      let p = applies _ _ a h in
      ap (apply (normal_form scope ctx f)) (reduced ctx p.argument u u' d p.argument_type k)

  -- whichever of the terms becomes the other
  pub step_keeps : (ctx : List SimpleType) (a : SimpleType) (s t : Lambda) → AreDeclared scope.bases ctx → HasType scope ctx a s → HasType scope ctx a t → DifferByStep s t → normal_form scope ctx s ≡ normal_form scope ctx t
  step_keeps ctx a s t d h k (inl c) = reduced ctx a s t d h c
  step_keeps ctx a s t d h k (inr c) = sym (reduced ctx a t s d k c)

  pub lead_keeps : (ctx : List SimpleType) (a : SimpleType) (s : Lambda) (us : List Lambda) (t : Lambda) → AreDeclared scope.bases ctx → HasType scope ctx a s → Lead scope ctx a s us t → normal_form scope ctx s ≡ normal_form scope ctx t
  lead_keeps ctx a s [] t d h l = ap (normal_form scope ctx) l
  lead_keeps ctx a s (u ∷ us) t d h l = step_keeps ctx a s u d h l.0 l.1 ∙ lead_keeps ctx a u us t d l.0 l.2
