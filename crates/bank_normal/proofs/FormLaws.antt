-- Names that stand for terms of a bank.
use Rattle.std.proofs.Common.{◌≡◌, ℕ, ◌<◌, List, [], ◌∷◌, ◌++◌, map, length, Option, Some, None, Bool, true, false, nat_eq, refl, ap, ◌∙◌, sym, subst, slice_get, if◌then◌else◌}
use Rattle.std.specs.Prelude.{All, IsSome}
use Rattle.std.proofs.lemmas.List.{map-append}
use Rattle.std.proofs.lemmas.List.Elements.{All-nil, All-head, All-tail, All-weaker, All-push}
use Rattle.std.proofs.lemmas.Option.{same_Some}
use Rattle.std.specs.Ordering.{nat_cmp}
use Rattle.std.specs.BTreeMap.{BTreeMap, get}
use Rattle.stt_core.specs.SimpleType.{SimpleType}
use Rattle.stt_core.specs.Lambda.{Constant, name, witness, falsity, negation, implication, all, equality, choice, description, Lambda, bound, constant, lam, app, IsLeaf}
use Rattle.stt_core.specs.SameTerm.{same_constant}
use Rattle.stt_core.specs.Typing.{Scope, IsScope, type_of}
use Rattle.stt_core.specs.Canonical.{IsCanonical}
use Rattle.stt_core.proofs.TypeLaws.{type_of-canonical}
use Rattle.normal_forms.specs.Normal.{apply_each, normal_form}
use Rattle.normal_forms.specs.Ready.{ArgumentsFit}
use Rattle.normal_forms.specs.Internal.Applying.{IsApplicable}
use Rattle.normal_forms.proofs.NormalValues.{canonical-normal_form}
use Rattle.normal_forms.proofs.EtaReplace.{normal_form-canonical}
use Rattle.term_bank.specs.Content.{Content, content_scope, Grows, HasTerm}
use Rattle.term_bank.specs.Terms.{term_at}
use Rattle.term_bank.proofs.GrowLaws.{grown_scope, grown_at, grown_within, has_at, has_within}
use Rattle.term_bank.proofs.ListLaws.{map-same}
use Rattle.delta_defs.specs.Definitions.{Definition, unfolded, meant}
use Rattle.delta_normal.specs.CanonicalDefinitions.{IsCanonicalDefinition, AreCanonicalDefinitions}
use Rattle.delta_defs.proofs.UnfoldedTerms.{type_of-unfolded}
use Rattle.delta_normal.specs.Forms.{normal_form_by}
use Rattle.delta_normal.proofs.FormLaws.{normal_form-more, typed-definitions, normal_form-by, normal_form-by-none, canonical-by}
use Rattle.bank_normal.specs.declared.forms.FormId.{FormId}
use Rattle.bank_normal.specs.Forms.{form_in, forms_in, AreForms}
use Rattle.bank_normal.specs.Internal.FindingForms.{id_of, id_or, HasIds, id_of_term}
use Rattle.bank_normal.specs.Internal.Replacing.{AppliesAllIn}

-- ONE NAME MORE

id_of-push : (fs : List FormId) (f : FormId) (k : ℕ) → id_of (fs ++ f ∷ []) k ≡ id_or (id_of fs k) f.place f.id k
id_of-push [] f k = refl
id_of-push (e ∷ fs) f k = go (nat_eq e.place k) (id_of-push fs f k)
  where
    go : (b : Bool) → id_of (fs ++ f ∷ []) k ≡ id_or (id_of fs k) f.place f.id k → (if b then Some e.id else id_of (fs ++ f ∷ []) k) ≡ id_or (if b then Some e.id else id_of fs k) f.place f.id k
    go true h = refl
    go false h = h

pub ids_more : (old new : BTreeMap ℕ ℕ) (fs gs : List FormId) (f : FormId) → HasIds old fs → ((k : ℕ) → get nat_cmp new k ≡ id_or (get nat_cmp old k) f.place f.id k) → gs ≡ fs ++ f ∷ [] → HasIds new gs
ids_more old new fs gs f h next is k =
    next k ∙ ap (λ o. id_or o f.place f.id k) (h k) ∙ sym (id_of-push fs f k) ∙ ap (λ l. id_of l k) (sym is)

-- A BANK THAT GROWS

pub forms_grown : (a b : Content) (fs : List FormId) → Grows a b → AreForms a fs → forms_in b.terms fs ≡ forms_in a.terms fs
forms_grown a b fs g h =
    map-same (λ f. f.id < length a.terms) (form_in b.terms) (form_in a.terms) (λ f k. ap (λ (t : Lambda). record { place = f.place; term = t }) (grown_at a b f.id g k)) fs h.within

pub are_forms_grown : (a b : Content) (fs : List FormId) → Grows a b → AreForms a fs → AreForms b fs
are_forms_grown a b fs g h = record {
  within = All-weaker (λ f. f.id < length a.terms) (λ f. f.id < length b.terms) (λ f k. grown_within a b f.id g k) fs h.within;
  canonical =
      subst (λ s. AreCanonicalDefinitions s (forms_in b.terms fs)) (sym (grown_scope a b g))
      (subst (AreCanonicalDefinitions (content_scope a)) (sym (forms_grown a b fs g h)) h.canonical);
}

-- WHAT A NAME STANDS FOR

-- what a name stands for is the closed canonical term at the number
pub record IsForm (b : Content) (x : Lambda) (id : ℕ) : Type 0 where
  pub within : id < length b.terms
  pub is : x ≡ term_at b.terms id
  pub type : SimpleType
  pub canonical : IsCanonical (content_scope b) [] type (term_at b.terms id)

form_found : (b : Content) (fs : List FormId) (k id : ℕ) → All (λ f. f.id < length b.terms) fs → AreCanonicalDefinitions (content_scope b) (forms_in b.terms fs) → id_of fs k ≡ Some id → IsForm b (meant (forms_in b.terms fs) (name k)) id
form_found b [] k id w h e = cc
form_found b (f ∷ fs) k id w h e = go (nat_eq f.place k) (form_found b fs k id (All-tail (λ f. f.id < length b.terms) f fs w) h.1) e
  where
    first : f.id ≡ id → IsForm b (term_at b.terms f.id) id
    first i = subst (IsForm b (term_at b.terms f.id)) i (record { within = All-head (λ f. f.id < length b.terms) f fs w; is = refl; type = h.0.type; canonical = h.0.term_in })

    go : (c : Bool) → (id_of fs k ≡ Some id → IsForm b (meant (forms_in b.terms fs) (name k)) id) → (if c then Some f.id else id_of fs k) ≡ Some id → IsForm b (if c then term_at b.terms f.id else meant (forms_in b.terms fs) (name k)) id
    go true rest i = first (same_Some f.id id i)
    go false rest i = rest i

pub form_of_term : (b : Content) (fs : List FormId) (t : Lambda) (id : ℕ) → AreForms b fs → id_of_term fs t ≡ Some id → IsForm b (unfolded (forms_in b.terms fs) t) id
form_of_term b fs (bound k) id h e = cc
form_of_term b fs (lam a s) id h e = cc
form_of_term b fs (app s u) id h e = cc
form_of_term b fs (constant (name k)) id h e = form_found b fs k id h.within h.canonical e
form_of_term b fs (constant (witness k)) id h e = cc
form_of_term b fs (constant falsity) id h e = cc
form_of_term b fs (constant negation) id h e = cc
form_of_term b fs (constant implication) id h e = cc
form_of_term b fs (constant (all a)) id h e = cc
form_of_term b fs (constant (equality a)) id h e = cc
form_of_term b fs (constant (choice a)) id h e = cc
form_of_term b fs (constant (description a)) id h e = cc

-- where it stands for nothing it stays
name_stays : (terms : List Lambda) (fs : List FormId) (k : ℕ) → id_of fs k ≡ None → meant (forms_in terms fs) (name k) ≡ constant (name k)
name_stays terms [] k e = refl
name_stays terms (f ∷ fs) k e = go (nat_eq f.place k) (name_stays terms fs k) e
  where
    go : (c : Bool) → (id_of fs k ≡ None → meant (forms_in terms fs) (name k) ≡ constant (name k)) → (if c then Some f.id else id_of fs k) ≡ None → (if c then term_at terms f.id else meant (forms_in terms fs) (name k)) ≡ constant (name k)
    go true rest i = cc
    go false rest i = rest i

other_stays : (terms : List Lambda) (fs : List FormId) (c : Constant) → ((p : ℕ) → same_constant (name p) c ≡ false) → meant (forms_in terms fs) c ≡ constant c
other_stays terms [] c o = refl
other_stays terms (f ∷ fs) c o = rw (o f.place) (other_stays terms fs c o)

pub leaf_stays : (terms : List Lambda) (fs : List FormId) (t : Lambda) → IsLeaf t → id_of_term fs t ≡ None → unfolded (forms_in terms fs) t ≡ t
leaf_stays terms fs (bound k) o e = refl
leaf_stays terms fs (lam a s) o e = absurd o
leaf_stays terms fs (app s u) o e = absurd o
leaf_stays terms fs (constant (name k)) o e = name_stays terms fs k e
leaf_stays terms fs (constant (witness k)) o e = other_stays terms fs (witness k) (λ p. refl)
leaf_stays terms fs (constant falsity) o e = other_stays terms fs falsity (λ p. refl)
leaf_stays terms fs (constant negation) o e = other_stays terms fs negation (λ p. refl)
leaf_stays terms fs (constant implication) o e = other_stays terms fs implication (λ p. refl)
leaf_stays terms fs (constant (all a)) o e = other_stays terms fs (all a) (λ p. refl)
leaf_stays terms fs (constant (equality a)) o e = other_stays terms fs (equality a) (λ p. refl)
leaf_stays terms fs (constant (choice a)) o e = other_stays terms fs (choice a) (λ p. refl)
leaf_stays terms fs (constant (description a)) o e = other_stays terms fs (description a) (λ p. refl)

-- A NAME WITH ARGUMENTS

module _ (b : Content) (ctx : List SimpleType) (fs : List FormId) (t : Lambda) (us : List Lambda) (id : ℕ) (h : AreForms b fs) (e : id_of_term fs t ≡ Some id) where
  -- the term at the number is the normal form of what the name stands for
  form_is : normal_form (content_scope b) ctx (unfolded (forms_in b.terms fs) t) ≡ term_at b.terms id
  form_is =
      let f = form_of_term b fs t id h e in
      ap (normal_form (content_scope b) ctx) f.is
      ∙ normal_form-more (content_scope b) [] ctx (term_at b.terms id) f.type (type_of-canonical (content_scope b) [] f.type (term_at b.terms id) f.canonical)
      ∙ normal_form-canonical (content_scope b) [] f.type (term_at b.terms id) f.canonical

  pub form_applies : IsApplicable (content_scope b) ctx (unfolded (forms_in b.terms fs) t) us → AppliesAllIn (content_scope b) (term_at b.terms id) us
  form_applies r =
      let q = canonical-normal_form (content_scope b) r.term.scope_declared ctx r.term.type (unfolded (forms_in b.terms fs) t) r.term.ctx_declared r.term.has_type in
      record { ctx = ctx; type = r.term.type; function_in = subst (IsCanonical (content_scope b) ctx r.term.type) form_is q; arguments_fit = r.arguments }

  pub form_made : (d : Content) (n : ℕ) → HasTerm d n (apply_each (term_at b.terms id) us) → HasTerm d n (apply_each (normal_form (content_scope b) ctx (unfolded (forms_in b.terms fs) t)) us)
  form_made d n at = subst (λ x. HasTerm d n (apply_each x us)) (sym form_is) at

-- A CLOSED TERM

module _ (b : Content) (fs : List FormId) (t : Lambda) (none : List ℕ) (h : AreForms b fs) (n : none ≡ []) where
  pub closed_applicable : IsScope (content_scope b) → IsSome (type_of (content_scope b) [] t) → IsApplicable (content_scope b) [] (unfolded (forms_in b.terms fs) t) (map (term_at b.terms) none)
  closed_applicable over typed = go (type_of (content_scope b) [] t) refl typed
    where
      go : (o : Option SimpleType) → type_of (content_scope b) [] t ≡ o → IsSome o → IsApplicable (content_scope b) [] (unfolded (forms_in b.terms fs) t) (map (term_at b.terms) none)
      go None e k = cc
      go (Some a) e k = record {
        term = record { scope_declared = over; ctx_declared = tt; type = a; has_type = type_of-unfolded (content_scope b) [] (forms_in b.terms fs) (typed-definitions (content_scope b) (forms_in b.terms fs) h.canonical) t ∙ e };
        arguments = subst (λ l. ArgumentsFit (content_scope b) [] a (map (term_at b.terms) l)) (sym n) tt;
      }

  pub closed_made : (d : Content) (id : ℕ) → HasTerm d id (apply_each (normal_form (content_scope b) [] (unfolded (forms_in b.terms fs) t)) (map (term_at b.terms) none)) → HasTerm d id (normal_form_by (content_scope b) (forms_in b.terms fs) [] t)
  closed_made d id at =
      subst (HasTerm d id)
      (ap (λ l. apply_each (normal_form (content_scope b) [] (unfolded (forms_in b.terms fs) t)) (map (term_at b.terms) l)) n ∙ normal_form-by (content_scope b) [] (forms_in b.terms fs) t h.canonical)
      at

-- no names
pub no_forms : (b : Content) (fs : List FormId) → fs ≡ [] → AreForms b fs
no_forms b fs e = subst (AreForms b) (sym e) (record { within = All-nil (λ f. f.id < length b.terms); canonical = tt })

pub made_without : (b d : Content) (fs : List FormId) (t : Lambda) (id : ℕ) → fs ≡ [] → HasTerm d id (normal_form_by (content_scope b) (forms_in b.terms fs) [] t) → HasTerm d id (normal_form (content_scope b) [] t)
made_without b d fs t id e at = subst (HasTerm d id) (ap (λ gs. normal_form_by (content_scope b) (forms_in b.terms gs) [] t) e ∙ normal_form-by-none (content_scope b) [] t) at

-- ONE NAME MORE IS RIGHT

definitions_more : (scope : Scope) (ds : List Definition) (d : Definition) → AreCanonicalDefinitions scope ds → IsCanonicalDefinition scope d → AreCanonicalDefinitions scope (ds ++ d ∷ [])
definitions_more scope [] d h k = (k, tt)
definitions_more scope (e ∷ ds) d h k = (h.0, definitions_more scope ds d h.1 k)

pub forms_more : (b : Content) (fs : List FormId) (f : FormId) → AreForms b fs → f.id < length b.terms → IsCanonicalDefinition (content_scope b) (form_in b.terms f) → AreForms b (fs ++ f ∷ [])
forms_more b fs f h w k = record {
  within = All-push (λ g. g.id < length b.terms) fs f h.within w;
  canonical = subst (AreCanonicalDefinitions (content_scope b)) (sym (map-append (form_in b.terms) fs (f ∷ []))) (definitions_more (content_scope b) (forms_in b.terms fs) (form_in b.terms f) h.canonical k);
}

-- a name with the number of the form by the earlier names of a closed term of its type
pub form_follows : (a b : Content) (fs : List FormId) (f : FormId) (t : Lambda) (c : SimpleType) → IsScope (content_scope a) → Grows a b → AreForms a fs → slice_get (content_scope a).names f.place ≡ Some c → type_of (content_scope a) [] t ≡ Some c → HasTerm b f.id (normal_form_by (content_scope a) (forms_in a.terms fs) [] t) → AreForms b (fs ++ f ∷ [])
form_follows a b fs f t c over g h named typed at =
    let made = canonical-by (content_scope a) over [] (forms_in a.terms fs) c t tt h.canonical typed in
    let here = subst (IsCanonical (content_scope a) [] c) (sym (has_at b f.id (normal_form_by (content_scope a) (forms_in a.terms fs) [] t) at)) made in
    forms_more b fs f (are_forms_grown a b fs g h) (has_within b f.id (normal_form_by (content_scope a) (forms_in a.terms fs) [] t) at)
    (subst (λ s. IsCanonicalDefinition s (form_in b.terms f)) (sym (grown_scope a b g)) (record { type = c; name_type = named; term_in = here }))
