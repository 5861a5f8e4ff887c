-- What a closed predicate gives at new variables, and that it holds of one value at most.
use Rattle.std.proofs.Common.{◌≡◌, ◌<◌, ℕ, zero, suc, true, [], ◌∷◌, Some, length, get_or, refl, sym, ap, ap₂, subst, subst₂, ◌∙◌, arith}
use Rattle.std.specs.Prelude.{All}
use Rattle.stt_core.specs.SimpleType.{SimpleType, formula, predicate, is_declared}
use Rattle.stt_core.specs.Lambda.{Lambda, bound, constant, lam, app, imp, eq, every}
use Rattle.stt_core.specs.Typing.{Scope}
use Rattle.stt_core.specs.Canonical.{IsCanonical}
use Rattle.stt_core.specs.Lift.{lift}
use Rattle.normal_forms.specs.Normal.{ways, eta, apply}
use Rattle.normal_forms.proofs.CanonicalLaws.{canonical-lift}
use Rattle.normal_forms.proofs.CommuteLaws.{lifts, replace_outside}
use Rattle.normal_forms.proofs.EtaReplace.{lift-eta}
use Rattle.normal_forms.proofs.NormalValues.{canonical-eta}
use Rattle.tableau_calculus.specs.Rules.{at_new, at_outer, at_inner, at_most_once}
use Rattle.tableau_calculus.proofs.EquationLaws.{canonical-eq}
use Rattle.tableau_calculus.proofs.FunctionLaws.{predicate_declared, canonical-every, canonical-at_new}
use Rattle.term_bank.specs.Content.{Content, content_scope, HasTerm, Grows}
use Rattle.term_bank.specs.Terms.{term_at, IsTypedTerm}
use Rattle.term_bank.proofs.GrowLaws.{grown_scope, grown_at, grown_term, grows_on, has_at, has_within}
use Rattle.bank_normal.specs.Fits.{AppliesIn, IsNeutralOf}
use Rattle.bank_normal.proofs.LiftLaws.{lift_by_none}
use Rattle.tableau_rules.specs.Internal.Typed.{IsPredicate, IsOpenFormula}
use Rattle.tableau_rules.proofs.ClosedLaws.{missing_none}
use Rattle.tableau_rules.proofs.TypedLaws.{declared_grown}

lift-apply : (f u : Lambda) → lift 0 (apply f u) ≡ apply (lift 0 f) (lift 0 u)
lift-apply (bound k) u = refl
lift-apply (constant c) u = refl
lift-apply (app s v) u = refl
lift-apply (lam a s) u = replace_outside (ways a) (lifts a) [] [] u s

unlifted : (scope : Scope) (a : SimpleType) (t : Lambda) → IsCanonical scope [] a t → lift 0 t ≡ t
unlifted scope a t h = lift_by_none 1 0 t (missing_none scope a t h)

pub two_within : (n i j : ℕ) → i < n → j < n → All (λ k. k < n) (i ∷ j ∷ [])
two_within n i j p q = go
  where
    go : (k d : ℕ) → k < 2 → get_or (i ∷ j ∷ []) k d < n
    go zero d l = p
    go (suc zero) d l = q
    go (suc (suc k)) d l = absurd (omega (arith, l))

-- two terms that are put together
pub two_made : (h : Lambda → Lambda → Lambda) (b c : Content) (i j n : ℕ) (s t : Lambda) → HasTerm b i s → HasTerm b j t → HasTerm c n (h (term_at b.terms i) (term_at b.terms j)) → HasTerm c n (h s t)
two_made h b c i j n s t p q m = m ∙ ap₂ (λ x y. Some (h x y)) (has_at b i s p) (has_at b j t q)

pub two_typed : (h : Lambda → Lambda → Lambda) (b : Content) (i j : ℕ) (s t : Lambda) → HasTerm b i s → HasTerm b j t → IsTypedTerm (content_scope b) (h s t) → IsTypedTerm (content_scope b) (h (term_at b.terms i) (term_at b.terms j))
two_typed h b i j s t p q typed = subst₂ (λ x y. IsTypedTerm (content_scope b) (h x y)) (sym (has_at b i s p)) (sym (has_at b j t q)) typed

-- TWO NEW VARIABLES

pub outer_neutral : (scope : Scope) (a : SimpleType) → is_declared scope.bases a ≡ true → IsNeutralOf scope a (bound 1)
outer_neutral scope a d = record { ctx = a ∷ a ∷ []; declared = d; neutral = refl }

pub inner_neutral : (scope : Scope) (a : SimpleType) → is_declared scope.bases a ≡ true → IsNeutralOf scope a (bound 0)
inner_neutral scope a d = record { ctx = a ∷ a ∷ []; declared = d; neutral = refl }

same_canonical : (scope : Scope) (a : SimpleType) → is_declared scope.bases a ≡ true → IsCanonical scope (a ∷ a ∷ []) formula (eq a (eta a (bound 1)) (eta a (bound 0)))
same_canonical scope a d =
    canonical-eq scope a (eta a (bound 1)) (eta a (bound 0)) (a ∷ a ∷ [])
    (record { declared = d; left = canonical-eta scope (a ∷ a ∷ []) a (bound 1) d refl; right = canonical-eta scope (a ∷ a ∷ []) a (bound 0) d refl })

module _ (b c : Content) (a x : SimpleType) (i j : ℕ) (same : x ≡ a) (g : Grows b c) (outer : HasTerm b i (eta a (bound 1))) (inner : HasTerm c j (eta a (bound 0))) where
  outer_has : HasTerm c i (eta a (bound 1))
  outer_has = grown_term b c i (eta a (bound 1)) g outer

  pub variables_typed : is_declared (content_scope c).bases a ≡ true → IsTypedTerm (content_scope c) (eq x (term_at c.terms i) (term_at c.terms j))
  variables_typed d =
      subst (λ y. IsTypedTerm (content_scope c) (eq y (term_at c.terms i) (term_at c.terms j))) (sym same)
      (two_typed (eq a) c i j (eta a (bound 1)) (eta a (bound 0)) outer_has inner (record { ctx = a ∷ a ∷ []; type = formula; canonical = same_canonical (content_scope c) a d }))

  pub variables_within : All (λ k. k < length c.terms) (i ∷ j ∷ [])
  variables_within = two_within (length c.terms) i j (has_within c i (eta a (bound 1)) outer_has) (has_within c j (eta a (bound 0)) inner)

  pub variables_made : (d : Content) (n : ℕ) → HasTerm d n (eq x (term_at c.terms i) (term_at c.terms j)) → HasTerm d n (eq a (eta a (bound 1)) (eta a (bound 0)))
  variables_made d n m = two_made (eq a) c d i j n (eta a (bound 1)) (eta a (bound 0)) outer_has inner (m ∙ ap (λ y. Some (eq y (term_at c.terms i) (term_at c.terms j))) same)

module _ (b : Content) (a : SimpleType) (f : ℕ) (p : IsPredicate b a f) where
  abbrev t : Lambda
  t = term_at b.terms f

  abbrev same_new : Lambda
  same_new = eq a (eta a (bound 1)) (eta a (bound 0))

  pub type_declared : is_declared (content_scope b).bases a ≡ true
  type_declared = predicate_declared (content_scope b) a t p.predicate_in

  still : lift 0 t ≡ t
  still = unlifted (content_scope b) (predicate a) t p.predicate_in

  -- WHAT IT GIVES AT THE OUTER ONE

  module _ (c : Content) (v : ℕ) (g : Grows b c) (variable : HasTerm c v (eta a (bound 1))) where
    in_one : IsCanonical (content_scope b) (a ∷ []) (predicate a) t
    in_one = subst (IsCanonical (content_scope b) (a ∷ []) (predicate a)) still (canonical-lift (content_scope b) [] a [] (predicate a) t p.predicate_in)

    in_two : IsCanonical (content_scope b) (a ∷ a ∷ []) (predicate a) t
    in_two = subst (IsCanonical (content_scope b) (a ∷ a ∷ []) (predicate a)) still (canonical-lift (content_scope b) [] a (a ∷ []) (predicate a) t in_one)

    pub outer_applies : AppliesIn (content_scope c) (term_at c.terms f) (term_at c.terms v)
    outer_applies =
        subst₂ (λ s u. AppliesIn s u (term_at c.terms v)) (sym (grown_scope b c g)) (sym (grown_at b c f g p.within))
        (subst (AppliesIn (content_scope b) t) (sym (has_at c v (eta a (bound 1)) variable))
        (record { ctx = a ∷ a ∷ []; applies = record { argument = a; result = formula; function_in = in_two; argument_in = canonical-eta (content_scope b) (a ∷ a ∷ []) a (bound 1) type_declared refl } }))

    outer_is : apply t (eta a (bound 1)) ≡ at_outer a t
    outer_is = sym (lift-apply (lift 0 t) (eta a (bound 0)) ∙ ap₂ apply (ap (lift 0) still ∙ still) (lift-eta [] a (bound 0)))

    pub outer_made : (d : Content) (id : ℕ) → HasTerm d id (apply (term_at c.terms f) (term_at c.terms v)) → HasTerm d id (at_outer a t)
    outer_made d id m = m ∙ ap Some (ap₂ apply (grown_at b c f g p.within) (has_at c v (eta a (bound 1)) variable) ∙ outer_is)

  -- THAT IT HOLDS OF ONE VALUE AT MOST

  outer_canonical : IsCanonical (content_scope b) (a ∷ a ∷ []) formula (at_outer a t)
  outer_canonical = canonical-lift (content_scope b) [] a (a ∷ []) formula (at_new a t) (canonical-at_new (content_scope b) [] a formula t type_declared p.predicate_in)

  inner_canonical : IsCanonical (content_scope b) (a ∷ a ∷ []) formula (at_inner a t)
  inner_canonical = canonical-at_new (content_scope b) (a ∷ []) a formula (lift 0 t) type_declared (canonical-lift (content_scope b) [] a [] (predicate a) t p.predicate_in)

  then_canonical : IsCanonical (content_scope b) (a ∷ a ∷ []) formula (imp (at_inner a t) same_new)
  then_canonical = (tt, (formula, (formula, refl, inner_canonical), same_canonical (content_scope b) a type_declared))

  both_canonical : IsCanonical (content_scope b) (a ∷ a ∷ []) formula (imp (at_outer a t) (imp (at_inner a t) same_new))
  both_canonical = (tt, (formula, (formula, refl, outer_canonical), then_canonical))

  -- a formula of two variables that is canonical over the bank is typed over a grown one
  typed_on : (c : Content) (s : Lambda) → Grows b c → IsCanonical (content_scope b) (a ∷ a ∷ []) formula s → IsTypedTerm (content_scope c) s
  typed_on c s g h = subst (λ y. IsTypedTerm y s) (sym (grown_scope b c g)) (record { ctx = a ∷ a ∷ []; type = formula; canonical = h })

  module _ (c d e : Content) (o i s : ℕ) (g : Grows b c) (k : Grows c d) (l : Grows d e) (outer : HasTerm c o (at_outer a t)) (inner : HasTerm d i (at_new a (term_at c.terms f))) (same : HasTerm e s same_new) where
    outer_in : HasTerm e o (at_outer a t)
    outer_in = grown_term c e o (at_outer a t) (grows_on c d e k l) outer

    inner_is : at_new a (term_at c.terms f) ≡ at_inner a t
    inner_is = ap (at_new a) (grown_at b c f g p.within ∙ sym still)

    inner_in : HasTerm e i (at_inner a t)
    inner_in = grown_term d e i (at_inner a t) l (inner ∙ ap Some inner_is)

    grown : Grows b e
    grown = grows_on b c e g (grows_on c d e k l)

    pub then_within : All (λ n. n < length e.terms) (i ∷ s ∷ [])
    then_within = two_within (length e.terms) i s (has_within e i (at_inner a t) inner_in) (has_within e s same_new same)

    pub then_typed : IsTypedTerm (content_scope e) (imp (term_at e.terms i) (term_at e.terms s))
    then_typed = two_typed imp e i s (at_inner a t) same_new inner_in same (typed_on e (imp (at_inner a t) same_new) grown then_canonical)

    module _ (m : Content) (n : ℕ) (q : Grows e m) (then : HasTerm m n (imp (term_at e.terms i) (term_at e.terms s))) where
      outer_on : HasTerm m o (at_outer a t)
      outer_on = grown_term e m o (at_outer a t) q outer_in

      then_in : HasTerm m n (imp (at_inner a t) same_new)
      then_in = two_made imp e m i s n (at_inner a t) same_new inner_in same then

      pub both_within : All (λ j. j < length m.terms) (o ∷ n ∷ [])
      both_within = two_within (length m.terms) o n (has_within m o (at_outer a t) outer_on) (has_within m n (imp (at_inner a t) same_new) then_in)

      pub both_typed : IsTypedTerm (content_scope m) (imp (term_at m.terms o) (term_at m.terms n))
      both_typed = two_typed imp m o n (at_outer a t) (imp (at_inner a t) same_new) outer_on then_in (typed_on m (imp (at_outer a t) (imp (at_inner a t) same_new)) (grows_on b e m grown q) both_canonical)

      pub both_made : (r : Content) (w : ℕ) → HasTerm r w (imp (term_at m.terms o) (term_at m.terms n)) → HasTerm r w (imp (at_outer a t) (imp (at_inner a t) same_new))
      both_made r w h = two_made imp m r o n w (at_outer a t) (imp (at_inner a t) same_new) outer_on then_in h

  module _ (c : Content) (w : ℕ) (g : Grows b c) (both : HasTerm c w (imp (at_outer a t) (imp (at_inner a t) same_new))) where
    abbrev whole : Lambda
    whole = imp (at_outer a t) (imp (at_inner a t) same_new)

    pub both_open : IsOpenFormula c a w
    both_open = record {
      within = has_within c w whole both;
      declared = declared_grown b c g a type_declared;
      outer = a ∷ [];
      formula_in = subst₂ (λ y z. IsCanonical y (a ∷ a ∷ []) formula z) (sym (grown_scope b c g)) (sym (has_at c w whole both)) both_canonical;
    }

    module _ (d : Content) (e : ℕ) (k : Grows c d) (every_inner : HasTerm d e (every a (lam a (term_at c.terms w)))) where
      every_in : HasTerm d e (every a (lam a whole))
      every_in = every_inner ∙ ap (λ z. Some (every a (lam a z))) (has_at c w whole both)

      every_canonical : IsCanonical (content_scope b) (a ∷ []) formula (every a (lam a whole))
      every_canonical = canonical-every (content_scope b) (a ∷ []) a (lam a whole) type_declared (type_declared, (refl, both_canonical))

      pub once_open : IsOpenFormula d a e
      once_open = record {
        within = has_within d e (every a (lam a whole)) every_in;
        declared = declared_grown b d (grows_on b c d g k) a type_declared;
        outer = [];
        formula_in = subst₂ (λ y z. IsCanonical y (a ∷ []) formula z) (sym (grown_scope b d (grows_on b c d g k))) (sym (has_at d e (every a (lam a whole)) every_in)) every_canonical;
      }

      pub once_made : (m : Content) (r : ℕ) → HasTerm m r (every a (lam a (term_at d.terms e))) → HasTerm m r (at_most_once a t)
      once_made m r h = h ∙ ap (λ z. Some (every a (lam a z))) (has_at d e (every a (lam a whole)) every_in)
