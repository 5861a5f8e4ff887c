-- Definitions that are taken, one after the other, by the numbers of their normal forms.
use Rattle.std.proofs.Common.{◌≡◌, ◌<◌, ℕ, ◌+◌, List, [], ◌∷◌, ◌++◌, Option, Some, None, Bool, length, take, slice_get, refl, ap, ap₂, sym, subst, ◌∙◌, option_to_list, append-nil}
use Rattle.std.specs.Prelude.{All}
use Rattle.std.proofs.lemmas.List.{map-append}
use Rattle.std.proofs.lemmas.List.Elements.{All-push}
use Rattle.std.proofs.lemmas.Option.{get_or_from_slice_get, slice_get_within}
use Rattle.stt_core.specs.SimpleType.{SimpleType}
use Rattle.stt_core.specs.Lambda.{Lambda, bound}
use Rattle.stt_core.specs.Typing.{Scope, IsScope, type_of}
use Rattle.stt_core.specs.TypedProblem.{IsFormula}
use Rattle.stt_core.proofs.ListLaws.{take_got}
use Rattle.term_bank.specs.Content.{Content, content_scope, Grows, HasTerm}
use Rattle.term_bank.specs.Terms.{term_at}
use Rattle.term_bank.proofs.GrowLaws.{grown_scope, has_at}
use Rattle.delta_defs.specs.Definitions.{Definition}
use Rattle.delta_defs.specs.Laws.{AreTypedDefinitions}
use Rattle.delta_defs.specs.Outline.{IsOutline}
use Rattle.delta_defs.specs.Unfolding.{in_terms_of, taken_from, with_next, unless_taken}
use Rattle.delta_defs.proofs.TakenDefinitions.{taken_is, taken_types, typed_next}
use Rattle.delta_defs.proofs.UnfoldedTerms.{type_of-unfolded}
use Rattle.delta_normal.specs.Forms.{normal_form_by, normal_definitions}
use Rattle.delta_normal.proofs.FormLaws.{forms-follow}
use Rattle.bank_normal.specs.Forms.{form_in, forms_in, AreForms}
use Rattle.bank_normal.specs.declared.forms.FormId.{FormId}
use Rattle.bank_normal.proofs.FormLaws.{forms_grown, form_follows}
use Rattle.problem_start.specs.declared.unfolding.Unfolding.{Unfolding}
use Rattle.problem_start.specs.Unfolds.{IsUnfolding, StandAt, formulas_at, place_unless}

-- the name has a type, and the term is closed and has it
pub record HasBody (scope : Scope) (d : Definition) : Type 0 where
  pub type : SimpleType
  pub name : slice_get scope.names d.place ≡ Some type
  pub term : type_of scope [] d.term ≡ Some type

-- what is taken from a formula, as the formula states it
pub has_body : (scope : Scope) (ds : List Definition) (mark : Bool) (t : Lambda) (d : Definition) → AreTypedDefinitions scope ds → IsFormula scope t → taken_from ds mark t ≡ Some (in_terms_of ds d) → HasBody scope d
has_body scope ds mark t d typed formula found =
    let i = taken_is ds mark t (in_terms_of ds d) found in
    let e = taken_types scope ds t (in_terms_of ds d) i formula in
    record {
      type = i.type;
      name = e.left;
      term = sym (type_of-unfolded scope [] ds typed d.term) ∙ ap (type_of scope []) (sym i.term_is) ∙ type_of-unfolded scope [] ds typed i.body ∙ e.right;
    }

module _ (a b : Content) (g : Grows a b) (over : IsScope (content_scope a)) (u v : Unfolding) (ds : List Definition) (mark : Bool) (t : Lambda) (w : IsUnfolding a u ds) (formula : IsFormula (content_scope a) t) where
  -- the walk with a definition more
  pub unfolding_more : (d : Definition) (id : ℕ) → taken_from ds mark t ≡ Some (in_terms_of ds d) → HasTerm b id (normal_form_by (content_scope a) (forms_in a.terms u.forms) [] d.term) → IsOutline v.outline (ds ++ in_terms_of ds d ∷ []) → v.forms ≡ u.forms ++ record { place = d.place; id = id } ∷ [] → IsUnfolding b v (with_next ds mark t)
  unfolding_more d id found at outline forms =
      let scope = content_scope a in
      let f : FormId = record { place = d.place; id = id } in
      let next : with_next ds mark t ≡ ds ++ in_terms_of ds d ∷ [] = ap (λ x. ds ++ option_to_list x) found in
      let body = has_body scope ds mark t d w.typed formula found in
      let term = has_at b id (normal_form_by scope (forms_in a.terms u.forms) [] d.term) at ∙ ap (λ es. normal_form_by scope es [] d.term) w.definitions in
      subst (IsUnfolding b v) (sym next) (record {
        outline = outline;
        forms = subst (AreForms b) (sym forms) (form_follows a b u.forms f d.term body.type over g w.forms body.name body.term at);
        definitions =
            ap (forms_in b.terms) forms
            ∙ map-append (form_in b.terms) u.forms (f ∷ [])
            ∙ ap₂ (λ (es : List Definition) (s : Lambda). es ++ record { place = d.place; term = s } ∷ []) (forms_grown a b u.forms g w.forms ∙ w.definitions) term
            ∙ sym (forms-follow scope ds d w.typed)
            ∙ ap (λ s. normal_definitions s (ds ++ in_terms_of ds d ∷ [])) (sym (grown_scope a b g));
        typed = subst (λ s. AreTypedDefinitions s (ds ++ in_terms_of ds d ∷ [])) (sym (grown_scope a b g)) (subst (AreTypedDefinitions scope) next (typed_next scope ds mark t w.typed formula));
      })

-- PLACES

place_there : (ts : List Lambda) (i : ℕ) (t : Lambda) (o : Option Definition) → slice_get ts i ≡ Some t → formulas_at ts (place_unless o i) ≡ unless_taken o t []
place_there ts i t None h = ap (λ s. s ∷ []) (get_or_from_slice_get ts i t (bound 0) h)
place_there ts i t (Some d) h = refl

pub places_more : (ts : List Lambda) (i : ℕ) (t : Lambda) (o : Option Definition) (places more : List ℕ) → slice_get ts i ≡ Some t → more ≡ places ++ place_unless o i → formulas_at ts more ≡ formulas_at ts places ++ unless_taken o t []
places_more ts i t o places more h e =
    ap (formulas_at ts) e ∙ map-append (term_at ts) places (place_unless o i) ∙ ap (λ l. formulas_at ts places ++ l) (place_there ts i t o h)

pub places_within : (ts : List Lambda) (i : ℕ) (t : Lambda) (o : Option Definition) (places more : List ℕ) → slice_get ts i ≡ Some t → All (λ i. i < length ts) places → more ≡ places ++ place_unless o i → All (λ i. i < length ts) more
places_within ts i t None places more h w e = subst (All (λ i. i < length ts)) (sym e) (All-push (λ i. i < length ts) places i w (slice_get_within ts i t h))
places_within ts i t (Some d) places more h w e = subst (All (λ i. i < length ts)) (sym (e ∙ append-nil places)) w

-- all places so far
pub all_places_more : (ts : List Lambda) (i : ℕ) (t : Lambda) (places more : List ℕ) → slice_get ts i ≡ Some t → StandAt ts places (take i ts) → more ≡ places ++ i ∷ [] → StandAt ts more (take (i + 1) ts)
all_places_more ts i t places more h s e = record {
  within = places_within ts i t None places more h s.within e;
  formulas = places_more ts i t None places more h e ∙ ap (λ l. l ++ t ∷ []) s.formulas ∙ sym (take_got ts i t h);
}
