-- What the calls of the normaliser owe, and what they give.
use Rattle.std.proofs.Common.{◌≡◌, ◌<◌, ◌+◌, ℕ, List, [], ◌∷◌, ◌++◌, reverse, Option, Some, None, true, slice_get, drop, length, refl, sym, ap, subst, ◌∙◌, arith}
use Rattle.std.specs.Prelude.{IsSome}
use Rattle.std.proofs.lemmas.Grind.{reverse_onto}
use Rattle.stt_core.specs.SimpleType.{SimpleType, base, arrow, same_type}
use Rattle.stt_core.specs.Lambda.{Lambda, bound, constant, lam, app, applied, node_count, IsLeaf}
use Rattle.stt_core.specs.Typing.{Scope, IsScope, AreDeclared, type_of}
use Rattle.stt_core.specs.Canonical.{IsCanonical}
use Rattle.stt_core.specs.Internal.CanonicalType.{canonical_type}
use Rattle.stt_core.specs.Meaning.{value}
use Rattle.stt_core.proofs.CanonicalTypes.{canonical-is, canonical_type-at}
use Rattle.stt_core.proofs.ListLaws.{drop_got}
use Rattle.stt_core.proofs.TypeLaws.{Applies, applies, abstracts, same_type-true}
use Rattle.normal_forms.specs.Normal.{eta, eta_if, apply, apply_each, normal_form}
use Rattle.normal_forms.specs.Laws.{HaveSameValue}
use Rattle.normal_forms.specs.Ready.{CanApply, ArgumentsFit, ArgumentsApply, IsNormalisable}
use Rattle.normal_forms.specs.Internal.Applying.{IsApplicable, result_after}
use Rattle.normal_forms.proofs.CanonicalLaws.{canonical-apply}
use Rattle.normal_forms.proofs.EtaReplace.{apply_each-eta}
use Rattle.normal_forms.proofs.NormalValues.{canonical-normal_form, value-normal_form}

-- A TERM WITH ARGUMENTS

-- the terms of an application
parts : (scope : Scope) (ctx : List SimpleType) (t s u : Lambda) → (h : IsNormalisable scope ctx t) → t ≡ app s u → Applies (type_of scope ctx s) (type_of scope ctx u) h.type
parts scope ctx t s u h e = applies (type_of scope ctx s) (type_of scope ctx u) h.type (subst (λ x. type_of scope ctx x ≡ Some h.type) e h.has_type)

pub argument_ready : (scope : Scope) (ctx : List SimpleType) (t s u : Lambda) (us none : List Lambda) → IsApplicable scope ctx t us → none ≡ [] → t ≡ app s u → IsApplicable scope ctx u none × (node_count u < node_count t)
argument_ready scope ctx t s u us none h n e =
    let p = parts scope ctx t s u h.term e in (
      record {
        term = record { scope_declared = h.term.scope_declared; ctx_declared = h.term.ctx_declared; type = p.argument; has_type = p.argument_type };
        arguments = subst (ArgumentsFit scope ctx p.argument) (sym n) tt;
      },
      omega (arith, ap node_count e),
    )

pub function_ready : (scope : Scope) (ctx : List SimpleType) (t s u v : Lambda) (us vs : List Lambda) → IsApplicable scope ctx t us → t ≡ app s u → v ≡ normal_form scope ctx u → vs ≡ v ∷ us → IsApplicable scope ctx s vs × (node_count s < node_count t)
function_ready scope ctx t s u v us vs h e q w =
    let p = parts scope ctx t s u h.term e in
    let v_in = subst (IsCanonical scope ctx p.argument) (sym q) (canonical-normal_form scope h.term.scope_declared ctx p.argument u h.term.ctx_declared p.argument_type) in (
      record {
        term = record { scope_declared = h.term.scope_declared; ctx_declared = h.term.ctx_declared; type = arrow p.argument h.term.type; has_type = p.function_type };
        arguments = subst (ArgumentsFit scope ctx (arrow p.argument h.term.type)) (sym w) (v_in, h.arguments);
      },
      omega (arith, ap node_count e),
    )

pub function_returns : (scope : Scope) (ctx : List SimpleType) (t s u v nf : Lambda) (us vs : List Lambda) → t ≡ app s u → v ≡ normal_form scope ctx u → vs ≡ v ∷ us → nf ≡ apply_each (normal_form scope ctx s) vs → nf ≡ apply_each (normal_form scope ctx t) us
function_returns scope ctx t s u v nf us vs e q w r =
    r
    ∙ ap (apply_each (normal_form scope ctx s)) w
    ∙ ap (λ x. apply_each (apply (normal_form scope ctx s) x) us) q
    ∙ ap (λ x. apply_each (normal_form scope ctx x) us) (sym e)

-- A FUNCTION WITH ARGUMENTS

pub body_ready : (scope : Scope) (ctx : List SimpleType) (t : Lambda) (a : SimpleType) (s : Lambda) (us none : List Lambda) → IsApplicable scope ctx t us → none ≡ [] → t ≡ lam a s → IsApplicable scope (a ∷ ctx) s none × (node_count s < node_count t)
body_ready scope ctx t a s us none h n e =
    let p = abstracts scope.bases a (type_of scope (a ∷ ctx) s) h.term.type (subst (λ x. type_of scope ctx x ≡ Some h.term.type) e h.term.has_type) in (
      record {
        term = record { scope_declared = h.term.scope_declared; ctx_declared = (p.declared, h.term.ctx_declared); type = p.result; has_type = p.body_type };
        arguments = subst (ArgumentsFit scope (a ∷ ctx) p.result) (sym n) tt;
      },
      omega (arith, ap node_count e),
    )

-- the normal form of the function
pub function_is : (scope : Scope) (ctx : List SimpleType) (t : Lambda) (a : SimpleType) (s body f : Lambda) (none : List Lambda) → none ≡ [] → t ≡ lam a s → body ≡ apply_each (normal_form scope (a ∷ ctx) s) none → f ≡ lam a body → f ≡ normal_form scope ctx t
function_is scope ctx t a s body f none n e q w =
    w ∙ ap (lam a) (q ∙ ap (apply_each (normal_form scope (a ∷ ctx) s)) n) ∙ ap (normal_form scope ctx) (sym e)

pub function_applies : (scope : Scope) (ctx : List SimpleType) (t f : Lambda) (us : List Lambda) → IsApplicable scope ctx t us → f ≡ normal_form scope ctx t → ArgumentsApply f us
function_applies scope ctx t f us h e = record {
  scope = scope;
  ctx = ctx;
  type = h.term.type;
  function_in = subst (IsCanonical scope ctx h.term.type) (sym e) (canonical-normal_form scope h.term.scope_declared ctx h.term.type t h.term.ctx_declared h.term.has_type);
  arguments_fit = h.arguments;
}

first_applies : (f u : Lambda) (us : List Lambda) → ArgumentsApply f (u ∷ us) → CanApply f u × ArgumentsApply (apply f u) us
first_applies f u us h = go h.type h.function_in h.arguments_fit
  where
    go : (a : SimpleType) → IsCanonical h.scope h.ctx a f → ArgumentsFit h.scope h.ctx a (u ∷ us) → CanApply f u × ArgumentsApply (apply f u) us
    go (base n) k fit = absurd fit
    go (arrow a b) k fit = (
      record { scope = h.scope; ctx = h.ctx; applies = record { argument = a; result = b; function_in = k; argument_in = fit.0 } },
      record { scope = h.scope; ctx = h.ctx; type = b; function_in = canonical-apply h.scope h.ctx a b f u k fit.0; arguments_fit = fit.1 },
    )

pub turn_ready : (f u : Lambda) (us : List Lambda) (i : ℕ) → ArgumentsApply f (drop i us) → slice_get us i ≡ Some u → CanApply f u
turn_ready f u us i h g = (first_applies f u (drop (i + 1) us) (subst (ArgumentsApply f) (drop_got us i u g) h)).0

pub turn_taken : (f u f' : Lambda) (us : List Lambda) (i : ℕ) (whole : Lambda) → ArgumentsApply f (drop i us) × (apply_each f (drop i us) ≡ whole) → slice_get us i ≡ Some u → f' ≡ apply f u → ArgumentsApply f' (drop (i + 1) us) × (apply_each f' (drop (i + 1) us) ≡ whole)
turn_taken f u f' us i whole h g e =
    let l = drop_got us i u g in (
      subst (λ t. ArgumentsApply t (drop (i + 1) us)) (sym e) (first_applies f u (drop (i + 1) us) (subst (ArgumentsApply f) l h.0)).1,
      ap (λ t. apply_each t (drop (i + 1) us)) e ∙ ap (apply_each f) (sym l) ∙ h.1,
    )

-- A VARIABLE OR A CONSTANT WITH ARGUMENTS

normal_form-leaf : (scope : Scope) (ctx : List SimpleType) (t : Lambda) → IsLeaf t → normal_form scope ctx t ≡ eta_if (type_of scope ctx t) t
normal_form-leaf scope ctx (bound k) o = refl
normal_form-leaf scope ctx (constant c) o = refl
normal_form-leaf scope ctx (lam a s) o = absurd o
normal_form-leaf scope ctx (app s u) o = absurd o

pub head_returns : (scope : Scope) (ctx : List SimpleType) (t h nf : Lambda) (a b : SimpleType) (us : List Lambda) (n : ℕ) → IsLeaf t → IsApplicable scope ctx t us → h ≡ t → Some a ≡ type_of scope ctx h → n ≡ length us → b ≡ result_after n a → nf ≡ eta b (applied h us) → nf ≡ apply_each (normal_form scope ctx t) us
head_returns scope ctx t h nf a b us n o r e p l q k =
    let typed : type_of scope ctx t ≡ Some a = ap (type_of scope ctx) (sym e) ∙ sym p in
    let found = r.term.has_type in
    let same : r.term.type ≡ a = cc in
    let fit = subst (λ c. ArgumentsFit scope ctx c us) same r.arguments in
    k
    ∙ ap (λ c. eta c (applied h us)) (q ∙ ap (λ m. result_after m a) l)
    ∙ ap (λ x. eta (result_after (length us) a) (applied x us)) e
    ∙ sym (apply_each-eta scope ctx a t us fit)
    ∙ ap (λ c. apply_each (eta_if c t) us) (sym typed)
    ∙ ap (λ x. apply_each x us) (sym (normal_form-leaf scope ctx t o))

-- A WHOLE TERM

AreDeclared-append : (bases : ℕ) (as' bs : List SimpleType) → AreDeclared bases as' → AreDeclared bases bs → AreDeclared bases (as' ++ bs)
AreDeclared-append bases [] bs h k = k
AreDeclared-append bases (a ∷ as') bs h k = (h.0, AreDeclared-append bases as' bs h.1 k)

pub AreDeclared-reverse : (bases : ℕ) (types : List SimpleType) → AreDeclared bases types → AreDeclared bases (reverse types)
AreDeclared-reverse bases [] h = tt
AreDeclared-reverse bases (a ∷ types) h =
    subst (AreDeclared bases) (sym (reverse_onto types a [])) (AreDeclared-append bases (reverse types) (a ∷ []) (AreDeclared-reverse bases types h.1) (h.0, tt))

-- the type of a term that has one
record Found (o : Option SimpleType) : Type 0 where
  type : SimpleType
  is : o ≡ Some type

found : (o : Option SimpleType) → IsSome o → Found o
found (Some a) h = record { type = a; is = refl }
found None h = cc

pub whole_ready : (scope : Scope) (ctx : List SimpleType) (t : Lambda) (none : List Lambda) → IsScope scope → AreDeclared scope.bases ctx → IsSome (type_of scope (reverse ctx) t) → none ≡ [] → IsApplicable scope (reverse ctx) t none
whole_ready scope ctx t none over d h n =
    let f = found (type_of scope (reverse ctx) t) h in
    record {
      term = record { scope_declared = over; ctx_declared = AreDeclared-reverse scope.bases ctx d; type = f.type; has_type = f.is };
      arguments = subst (ArgumentsFit scope (reverse ctx) f.type) (sym n) tt;
    }

pub whole_is : (t nf : Lambda) (none : List Lambda) → none ≡ [] → nf ≡ apply_each t none → nf ≡ t
whole_is t nf none n e = e ∙ ap (apply_each t) n

pub whole_type : (scope : Scope) (ctx : List SimpleType) (t nf : Lambda) → IsNormalisable scope ctx t → nf ≡ normal_form scope ctx t → canonical_type scope ctx nf ≡ type_of scope ctx t
whole_type scope ctx t nf h e =
    ap (canonical_type scope ctx) e
    ∙ canonical_type-at scope ctx h.type (normal_form scope ctx t) (canonical-normal_form scope h.scope_declared ctx h.type t h.ctx_declared h.has_type)
    ∙ sym h.has_type

pub whole_value : (scope : Scope) (ctx : List SimpleType) (t nf : Lambda) → IsNormalisable scope ctx t → nf ≡ normal_form scope ctx t → HaveSameValue scope ctx nf t
whole_value scope ctx t nf h e =
    λ m env good fits.
    ap (value scope m ctx env) e ∙ value-normal_form scope h.scope_declared m good ctx env h.type t h.ctx_declared h.has_type fits

-- terms of these types may be applied
pub can_apply : (scope : Scope) (ctx : List SimpleType) (t a b c : SimpleType) (f u : Lambda) → Some t ≡ canonical_type scope ctx f → t ≡ arrow a b → Some c ≡ canonical_type scope ctx u → same_type a c ≡ true → CanApply f u
can_apply scope ctx t a b c f u p e q s =
    let same = same_type-true a c s in
    record {
      scope = scope;
      ctx = ctx;
      applies = record {
        argument = a;
        result = b;
        function_in = canonical-is scope ctx (arrow a b) f (sym p ∙ ap Some e);
        argument_in = canonical-is scope ctx a u (sym q ∙ ap Some (sym same));
      };
    }
