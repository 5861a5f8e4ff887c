-- Functions that are eta-long forms of heads, and what they give at all their arguments.
use Rattle.std.proofs.Common.{◌≡◌, ℕ, zero, suc, ◌+◌, ◌<◌, List, [], ◌∷◌, ◌++◌, map, take, take_all, length, slice_get, Some, refl, sym, ap, ap₂, subst, ◌∙◌, arith}
use Rattle.std.specs.Prelude.{All}
use Rattle.std.proofs.lemmas.List.{length-map, take-map}
use Rattle.std.proofs.lemmas.List.Elements.{All-append, All-take}
use Rattle.stt_core.specs.SimpleType.{SimpleType, base, arrow}
use Rattle.stt_core.specs.Lambda.{Lambda, bound, constant, lam, app, applied}
use Rattle.stt_core.specs.Typing.{Scope}
use Rattle.stt_core.specs.Canonical.{IsCanonical}
use Rattle.stt_core.specs.Lift.{lift_by}
use Rattle.stt_core.proofs.ListLaws.{map-append, take_got}
use Rattle.stt_core.proofs.CanonicalTypes.{applied-more}
use Rattle.stt_core.proofs.SpineLaws.{IsAtom}
use Rattle.normal_forms.specs.Normal.{eta, apply, apply_each}
use Rattle.normal_forms.specs.Internal.Applying.{result_after}
use Rattle.normal_forms.proofs.EtaReplace.{apply_each-eta}
use Rattle.term_bank.specs.Content.{Content, content_scope, HasTerm, Grows}
use Rattle.term_bank.specs.Terms.{term_at, IsTypedTerm}
use Rattle.term_bank.proofs.GrowLaws.{grown_scope, grown_all, grown_terms}
use Rattle.bank_normal.specs.Fits.{IsNeutralOf}
use Rattle.bank_normal.specs.Internal.LiftedHeads.{arrow_count, eta_lifted}
use Rattle.bank_normal.specs.Internal.Expanded.{binder_types, IsFormOf}
use Rattle.bank_normal.specs.Internal.Replacing.{AppliesAllIn}
use Rattle.bank_normal.proofs.EtaLaws.{eta_is_lifted}
use Rattle.bank_normal.proofs.LiftLaws.{lift_by-applied}
use Rattle.bank_normal.proofs.ReplaceLaws.{rest_applies}

-- THE WALK DOWN THE BINDERS

pub no_binders : (h : Lambda) (us : List Lambda) → IsAtom h → binder_types (applied h us) ≡ base 0
no_binders h [] o = leaf h o
  where
    leaf : (h : Lambda) → IsAtom h → binder_types h ≡ base 0
    leaf (bound k) o = refl
    leaf (constant c) o = refl
    leaf (lam a s) o = absurd o
    leaf (app s u) o = refl
no_binders h (u ∷ us) o = go h u us
  where
    go : (t u : Lambda) (us : List Lambda) → binder_types (applied (app t u) us) ≡ base 0
    go t u [] = refl
    go t u (v ∷ us) = go (app t u) v us

-- a head with all its arguments
pub form_within : (t h : Lambda) (us : List Lambda) (n : ℕ) → binder_types t ≡ base 0 → t ≡ applied h us → n ≡ length us → IsFormOf t h us n
form_within t h us n none is all = record {
  is = is ∙ sym (ap₂ (λ a vs. eta_lifted a (applied h vs)) none (take_all n us (omega (arith, all))));
  count = omega (arith, all, ap arrow_count none);
}

-- one binder before
pub form_before : (t h s : Lambda) (a : SimpleType) (us : List Lambda) (n m left : ℕ) → t ≡ lam a s → slice_get us n ≡ Some (eta a (bound left)) → left + n + 1 ≡ length us → m ≡ n + 1 → IsFormOf s h us m → IsFormOf t h us n
form_before t h s a us n m left e at l next f =
    let types : binder_types t ≡ arrow a (binder_types s) = ap binder_types e in
    let count : left ≡ arrow_count (binder_types s) = omega (arith, f.count, l, next) in
    let more : applied h (take m us) ≡ app (applied h (take n us)) (eta a (bound (arrow_count (binder_types s)))) =
    ap (λ j. applied h (take j us)) next ∙ ap (applied h) (take_got us n (eta a (bound left)) at) ∙ applied-more h (take n us) (eta a (bound left)) ∙ ap (λ j. app (applied h (take n us)) (eta a (bound j))) count in
    record {
      is = e ∙ ap (lam a) (f.is ∙ ap (eta_lifted (binder_types s)) more) ∙ ap (λ x. eta_lifted x (applied h (take n us))) (sym types);
      count = omega (arith, f.count, next, ap arrow_count types);
    }

-- a binder's variable has its type
pub binder_neutral : (scope : Scope) (t : Lambda) (a : SimpleType) (s : Lambda) → t ≡ lam a s → IsTypedTerm scope t → IsNeutralOf scope a (bound 0)
binder_neutral scope t a s e h =
    let c = subst (IsCanonical scope h.ctx h.type) e h.canonical in
    record { ctx = a ∷ h.ctx; declared = c.0; neutral = refl }

-- THE TYPE OF THE FUNCTION

-- the two types have the same arguments
abbrev SameArguments : SimpleType → SimpleType → Type 0
SameArguments (base n) (base m) = Unit {0}
SameArguments (base n) (arrow a b) = ⊥
SameArguments (arrow a b) (base n) = ⊥
SameArguments (arrow a b) (arrow c d) = (c ≡ a) × SameArguments b d

binders_fit : (scope : Scope) (ctx : List SimpleType) (a : SimpleType) (t : Lambda) → IsCanonical scope ctx a t → SameArguments a (binder_types t)
binders_fit scope ctx (base n) (bound k) h = tt
binders_fit scope ctx (base n) (constant c) h = tt
binders_fit scope ctx (base n) (app s u) h = tt
binders_fit scope ctx (base n) (lam c s) h = absurd h.1
binders_fit scope ctx (arrow a b) (bound k) h = absurd h.0
binders_fit scope ctx (arrow a b) (constant c) h = absurd h.0
binders_fit scope ctx (arrow a b) (app s u) h = absurd h.0
binders_fit scope ctx (arrow a b) (lam c s) h = (sym h.1.0, binders_fit scope (c ∷ ctx) b s h.1.1)

same_form : (a b : SimpleType) (t : Lambda) → SameArguments a b → eta b t ≡ eta a t
same_form (base n) (base m) t h = refl
same_form (base n) (arrow c d) t h = absurd h
same_form (arrow a b) (base n) t h = absurd h
same_form (arrow a b) (arrow c d) t h =
    ap (λ x. eta (arrow x d) t) h.0 ∙ ap (lam a) (same_form b d _ h.1)

same_count : (a b : SimpleType) → SameArguments a b → arrow_count a ≡ arrow_count b
same_count (base n) (base m) h = refl
same_count (base n) (arrow c d) h = absurd h
same_count (arrow a b) (base n) h = absurd h
same_count (arrow a b) (arrow c d) h = ap suc (same_count b d h.1)

-- at all its arguments the form is the head with them
all_taken : (a : SimpleType) (t : Lambda) (n : ℕ) → n ≡ arrow_count a → eta (result_after n a) t ≡ t
all_taken (base m) t zero e = refl
all_taken (base m) t (suc n) e = refl
all_taken (arrow a b) t zero e = absurd (omega (arith, e))
all_taken (arrow a b) t (suc n) e = all_taken b t n (omega (arith, e))

applied-append : (t : Lambda) (us vs : List Lambda) → applied (applied t us) vs ≡ applied t (us ++ vs)
applied-append t [] vs = refl
applied-append t (u ∷ us) vs = applied-append (app t u) us vs

-- APPLYING

pub each_typed : (scope : Scope) (f : Lambda) (us : List Lambda) → AppliesAllIn scope f us → IsTypedTerm scope (apply_each f us)
each_typed scope f [] h = record { ctx = h.ctx; type = h.type; canonical = h.function_in }
each_typed scope f (u ∷ us) h = each_typed scope (apply f u) us (rest_applies scope f u us h)

pub form_applied : (scope : Scope) (f h k : Lambda) (us vs : List Lambda) (n given : ℕ) → IsFormOf f h us given → h ≡ lift_by n 0 k → map (lift_by n 0) (take given us) ≡ take given us → given + n ≡ length us → length vs ≡ n → AppliesAllIn scope f vs → apply_each f vs ≡ applied k (take given us ++ vs)
form_applied scope f h k us vs n given form lowered closed count all fits =
    let ps = take given us in
    let t = binder_types f in
    let x = applied k ps in
    let arrows : arrow_count t ≡ n = omega (arith, form.count, count) in
    let lifted : applied h ps ≡ lift_by (arrow_count t) 0 x =
    ap₂ applied lowered (sym closed) ∙ sym (lift_by-applied n 0 k ps) ∙ ap (λ j. lift_by j 0 x) (sym arrows) in
    let is : f ≡ eta t x = form.is ∙ ap (eta_lifted t) lifted ∙ sym (eta_is_lifted t x) in
    let same = binders_fit scope fits.ctx fits.type f fits.function_in in
    let taken : length vs ≡ arrow_count fits.type = all ∙ sym arrows ∙ sym (same_count fits.type t same) in
    ap (λ g. apply_each g vs) (is ∙ same_form fits.type t x same)
    ∙ apply_each-eta scope fits.ctx fits.type x vs fits.arguments_fit
    ∙ all_taken fits.type (applied x vs) (length vs) taken
    ∙ applied-append k ps vs

-- THE NODES

module _ (old b : Content) (f : ℕ) (inner args all : List ℕ) (h k : Lambda) (n given : ℕ) (g : Grows old b)
    (form : IsFormOf (term_at old.terms f) h (map (term_at old.terms) inner) given) (lowered : h ≡ lift_by n 0 k)
    (closed : map (lift_by n 0) (take given (map (term_at old.terms) inner)) ≡ take given (map (term_at old.terms) inner))
    (count : given + n ≡ length inner) (many : length args ≡ n)
    (inner_in : All (λ j. j < length old.terms) inner) (args_in : All (λ j. j < length old.terms) args)
    (joined : all ≡ take given inner ++ args)
    (fits : AppliesAllIn (content_scope old) (term_at old.terms f) (map (term_at old.terms) args)) where
  all_in : All (λ j. j < length old.terms) all
  all_in = subst (All (λ j. j < length old.terms)) (sym joined) (All-append (λ j. j < length old.terms) (take given inner) args (All-take (λ j. j < length old.terms) given inner inner_in) args_in)

  pub form_within_bank : All (λ j. j < length b.terms) all
  form_within_bank = grown_all old b all g all_in

  form_is : applied k (map (term_at b.terms) all) ≡ apply_each (term_at old.terms f) (map (term_at old.terms) args)
  form_is =
      ap (applied k) (grown_terms old b all g all_in ∙ ap (map (term_at old.terms)) joined ∙ map-append (term_at old.terms) (take given inner) args ∙ ap (λ l. l ++ map (term_at old.terms) args) (sym (take-map (term_at old.terms) given inner)))
      ∙ sym (form_applied (content_scope old) (term_at old.terms f) h k (map (term_at old.terms) inner) (map (term_at old.terms) args) n given form lowered closed (count ∙ sym (length-map inner (term_at old.terms))) (length-map args (term_at old.terms) ∙ many) fits)

  pub form_ready : IsTypedTerm (content_scope b) (applied k (map (term_at b.terms) all))
  form_ready =
      subst (λ s. IsTypedTerm s (applied k (map (term_at b.terms) all))) (sym (grown_scope old b g))
      (subst (IsTypedTerm (content_scope old)) (sym form_is) (each_typed (content_scope old) (term_at old.terms f) (map (term_at old.terms) args) fits))

  pub form_made : (c : Content) (id : ℕ) → HasTerm c id (applied k (map (term_at b.terms) all)) → HasTerm c id (apply_each (term_at old.terms f) (map (term_at old.terms) args))
  form_made c id at = subst (HasTerm c id) form_is at
