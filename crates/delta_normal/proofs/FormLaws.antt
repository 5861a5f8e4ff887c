-- Normal forms of unfolded terms.
use Rattle.std.proofs.Common.{◌≡◌, List, [], ◌∷◌, ◌++◌, Some, Bool, true, false, refl, ap, ap₂, ◌∙◌, sym, subst, if◌then◌else◌}
use Rattle.std.proofs.lemmas.List.{map-append}
use Rattle.stt_core.specs.SimpleType.{SimpleType, arrow}
use Rattle.stt_core.specs.Lambda.{Constant, name, Lambda, bound, constant, lam, app}
use Rattle.stt_core.specs.SameTerm.{same_constant}
use Rattle.stt_core.specs.Typing.{Scope, IsScope, AreDeclared, type_of}
use Rattle.stt_core.specs.TypedProblem.{AreFormulas}
use Rattle.stt_core.proofs.ListLaws.{slice_get-append}
use Rattle.stt_core.specs.Canonical.{IsCanonical}
use Rattle.stt_core.proofs.TypeLaws.{applies, abstracts, type_of-canonical}
use Rattle.normal_forms.specs.Normal.{apply, eta_if, normal_form}
use Rattle.normal_forms.proofs.NormalValues.{canonical-normal_form}
use Rattle.normal_forms.proofs.EtaReplace.{normal_form-canonical}
use Rattle.delta_defs.specs.Definitions.{Definition, meant, unfolded}
use Rattle.delta_defs.specs.Unfolding.{in_terms_of, taken_after}
use Rattle.delta_defs.specs.Laws.{AreTypedDefinitions}
use Rattle.delta_defs.proofs.UnfoldedTerms.{type_of-unfolded}
use Rattle.delta_defs.proofs.TakenDefinitions.{typed_after}
use Rattle.delta_normal.specs.Forms.{form_of, normal_form_by, normal_definition, normal_definitions}
use Rattle.delta_normal.specs.CanonicalDefinitions.{AreCanonicalDefinitions}

module _ (scope : Scope) where
  -- a typed term has the same normal form where there are further variables outside
  pub normal_form-more : (pre ctx : List SimpleType) (t : Lambda) (a : SimpleType) → type_of scope pre t ≡ Some a → normal_form scope (pre ++ ctx) t ≡ normal_form scope pre t
  normal_form-more pre ctx (bound k) a h = ap (λ o. eta_if o (bound k)) (slice_get-append pre ctx k a h ∙ sym h)
  normal_form-more pre ctx (constant c) a h = refl
  normal_form-more pre ctx (lam c s) a h =
      let d = abstracts scope.bases c (type_of scope (c ∷ pre) s) a h in
      ap (lam c) (normal_form-more (c ∷ pre) ctx s d.result d.body_type)
  normal_form-more pre ctx (app s u) a h =
      let d = applies (type_of scope pre s) (type_of scope pre u) a h in
      ap₂ apply (normal_form-more pre ctx s (arrow d.argument a) d.function_type) (normal_form-more pre ctx u d.argument d.argument_type)

  form-meant : (ctx : List SimpleType) (ds : List Definition) (c : Constant) → AreTypedDefinitions scope ds → normal_form scope ctx (meant ds c) ≡ form_of scope (normal_definitions scope ds) c
  form-meant ctx [] c h = refl
  form-meant ctx (d ∷ ds) c h = go (same_constant (name d.place) c) (form-meant ctx ds c h.1)
    where
      go : (b : Bool) → normal_form scope ctx (meant ds c) ≡ form_of scope (normal_definitions scope ds) c → normal_form scope ctx (if b then d.term else meant ds c) ≡ (if b then normal_form scope [] d.term else form_of scope (normal_definitions scope ds) c)
      go true rest = normal_form-more [] ctx d.term h.0.type h.0.term_type
      go false rest = rest

  pub normal_form-unfolded : (ctx : List SimpleType) (ds : List Definition) (t : Lambda) → AreTypedDefinitions scope ds → normal_form scope ctx (unfolded ds t) ≡ normal_form_by scope (normal_definitions scope ds) ctx t
  normal_form-unfolded ctx ds (bound k) h = refl
  normal_form-unfolded ctx ds (constant c) h = form-meant ctx ds c h
  normal_form-unfolded ctx ds (lam a s) h = ap (lam a) (normal_form-unfolded (a ∷ ctx) ds s h)
  normal_form-unfolded ctx ds (app s u) h = ap₂ apply (normal_form-unfolded ctx ds s h) (normal_form-unfolded ctx ds u h)

  pub forms-follow : (ds : List Definition) (d : Definition) → AreTypedDefinitions scope ds → normal_definitions scope (ds ++ in_terms_of ds d ∷ []) ≡ normal_definitions scope ds ++ record { place = d.place; term = normal_form_by scope (normal_definitions scope ds) [] d.term } ∷ []
  forms-follow ds d h =
      map-append (normal_definition scope) ds (in_terms_of ds d ∷ [])
      ∙ ap (λ (t : Lambda). normal_definitions scope ds ++ record { place = d.place; term = t } ∷ []) (normal_form-unfolded [] ds d.term h)

  pub canonical-definitions : IsScope scope → (ds : List Definition) → AreTypedDefinitions scope ds → AreCanonicalDefinitions scope (normal_definitions scope ds)
  canonical-definitions over [] h = tt
  canonical-definitions over (d ∷ ds) h = (
    record { type = h.0.type; name_type = h.0.name_type; term_in = canonical-normal_form scope over [] h.0.type d.term tt h.0.term_type },
    canonical-definitions over ds h.1,
  )

  pub canonical-taken : (marks : List Bool) (ts : List Lambda) → IsScope scope → AreFormulas scope ts → AreCanonicalDefinitions scope (normal_definitions scope (taken_after [] marks ts))
  canonical-taken marks ts over f = canonical-definitions over (taken_after [] marks ts) (typed_after scope [] marks ts tt f)

  -- DEFINITIONS BY CANONICAL TERMS

  pub typed-definitions : (ds : List Definition) → AreCanonicalDefinitions scope ds → AreTypedDefinitions scope ds
  typed-definitions [] h = tt
  typed-definitions (d ∷ ds) h = (record { type = h.0.type; name_type = h.0.name_type; term_type = type_of-canonical scope [] h.0.type d.term h.0.term_in }, typed-definitions ds h.1)

  pub normal-definitions : (ds : List Definition) → AreCanonicalDefinitions scope ds → normal_definitions scope ds ≡ ds
  normal-definitions [] h = refl
  normal-definitions (d ∷ ds) h = ap₂ (λ (t : Lambda) (es : List Definition). record { place = d.place; term = t } ∷ es) (normal_form-canonical scope [] h.0.type d.term h.0.term_in) (normal-definitions ds h.1)

  -- the form by canonical terms is the normal form of the unfolded term
  pub normal_form-by : (ctx : List SimpleType) (ds : List Definition) (t : Lambda) → AreCanonicalDefinitions scope ds → normal_form scope ctx (unfolded ds t) ≡ normal_form_by scope ds ctx t
  normal_form-by ctx ds t h = normal_form-unfolded ctx ds t (typed-definitions ds h) ∙ ap (λ es. normal_form_by scope es ctx t) (normal-definitions ds h)

  pub normal_form-by-none : (ctx : List SimpleType) (t : Lambda) → normal_form_by scope [] ctx t ≡ normal_form scope ctx t
  normal_form-by-none ctx (bound k) = refl
  normal_form-by-none ctx (constant c) = refl
  normal_form-by-none ctx (lam a s) = ap (lam a) (normal_form-by-none (a ∷ ctx) s)
  normal_form-by-none ctx (app s u) = ap₂ apply (normal_form-by-none ctx s) (normal_form-by-none ctx u)

  -- it is canonical, of the term's type
  pub canonical-by : IsScope scope → (ctx : List SimpleType) (ds : List Definition) (a : SimpleType) (t : Lambda) → AreDeclared scope.bases ctx → AreCanonicalDefinitions scope ds → type_of scope ctx t ≡ Some a → IsCanonical scope ctx a (normal_form_by scope ds ctx t)
  canonical-by over ctx ds a t declared h typed =
      subst (IsCanonical scope ctx a) (normal_form-by ctx ds t h)
      (canonical-normal_form scope over ctx a (unfolded ds t) declared (type_of-unfolded scope ctx ds (typed-definitions ds h) t ∙ typed))
