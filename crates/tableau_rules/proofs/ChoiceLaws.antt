-- Closed predicates, and what operators on predicates give for them.
use Rattle.std.proofs.Common.{◌≡◌, ◌<◌, ◌+◌, ℕ, Bool, true, false, [], ◌∷◌, Some, None, Option, IsTrue, length, inl, inr, sym, ap, ap₂, subst, subst₂, ◌∙◌, true≢false, if◌then◌else◌, arith}
use Rattle.std.specs.Prelude.{◌↔◌}
use Rattle.std.proofs.lemmas.Option.{same_Some}
use Rattle.std.proofs.lemmas.Bool.{and_from, lt-ltb}
use Rattle.stt_core.specs.SimpleType.{SimpleType, base, formula, arrow, predicate, is_declared}
use Rattle.stt_core.specs.Lambda.{Lambda, app}
use Rattle.stt_core.specs.Occurrence.{IsClosed}
use Rattle.stt_core.specs.Typing.{type_of}
use Rattle.stt_core.specs.Canonical.{IsCanonical, IsNeutral}
use Rattle.stt_core.proofs.CanonicalTypes.{canonical_type-at}
use Rattle.normal_forms.specs.Normal.{eta, apply}
use Rattle.normal_forms.proofs.NormalValues.{canonical-eta}
use Rattle.normal_forms.proofs.EtaReplace.{apply_each-eta}
use Rattle.tableau_calculus.proofs.FunctionLaws.{predicate_declared}
use Rattle.term_bank.specs.Content.{Content, content_scope, HasTerm, Grows}
use Rattle.term_bank.specs.Terms.{term_at}
use Rattle.term_bank.proofs.GrowLaws.{grown_scope, grown_at, grown_within, grows_on, has_at}
use Rattle.bank_normal.specs.Fits.{AppliesIn, IsNeutralOf}
use Rattle.tableau_rules.specs.Internal.Typed.{IsPredicate, IsPredicateType, IsOperator}
use Rattle.tableau_rules.proofs.ClosedLaws.{canonical_closed}

pub open_none : (b : Content) (f : ℕ) (r : Bool) → (IsTrue r ↔ IsClosed (term_at b.terms f)) → r ≡ false → IsPredicateType b f None
open_none b f r d e = λ a k. true≢false (sym (d.1 (canonical_closed (content_scope b) (predicate a) (term_at b.terms f) k)) ∙ e)

module _ (b : Content) (f : ℕ) (c : SimpleType) (typed : IsCanonical (content_scope b) [] c (term_at b.terms f)) where
  one_type : (x : SimpleType) → IsCanonical (content_scope b) [] x (term_at b.terms f) → c ≡ x
  one_type x k = same_Some c x (sym (canonical_type-at (content_scope b) [] c (term_at b.terms f) typed) ∙ canonical_type-at (content_scope b) [] x (term_at b.terms f) k)

  pub function_none : (a r : SimpleType) → c ≡ arrow a r → (r ≡ formula → ⊥) → IsPredicateType b f None
  function_none a r e differ = λ x k.
      let q : arrow a r ≡ predicate x = sym e ∙ one_type (predicate x) k in
      let same : r ≡ formula = cc in
      differ same

  pub base_none : (n : ℕ) → c ≡ base n → IsPredicateType b f None
  base_none n e = λ x k.
      let q : base n ≡ predicate x = sym e ∙ one_type (predicate x) k in
      cc

  pub predicate_is : (a r x : SimpleType) → f < length b.terms → c ≡ arrow a r → r ≡ formula → x ≡ a → IsPredicate b x f
  predicate_is a r x w e is same =
      record { within = w; predicate_in = subst (λ y. IsCanonical (content_scope b) [] y (term_at b.terms f)) (e ∙ ap₂ arrow (sym same) is) typed }

pub predicate_grown : (b c : Content) (a : SimpleType) (f : ℕ) → Grows b c → IsPredicate b a f → IsPredicate c a f
predicate_grown b c a f g h = record {
  within = grown_within b c f g h.within;
  predicate_in = subst₂ (λ s t. IsCanonical s [] (predicate a) t) (sym (grown_scope b c g)) (sym (grown_at b c f g h.within)) h.predicate_in;
}

-- WHAT AN OPERATOR ON PREDICATES GIVES

module _ (b : Content) (a : SimpleType) (h : Lambda) (f : ℕ) (op : IsOperator a h) (p : IsPredicate b a f) where
  declared_here : is_declared (content_scope b).bases a ≡ true
  declared_here = predicate_declared (content_scope b) a (term_at b.terms f) p.predicate_in

  type_declared : is_declared (content_scope b).bases (arrow (predicate a) a) ≡ true
  type_declared = and_from _ _ (and_from _ _ declared_here (lt-ltb 0 (length b.bases + 2) (omega arith))) declared_here

  operator_type : type_of (content_scope b) [] h ≡ Some (arrow (predicate a) a)
  operator_type = go op
    where
      go : IsOperator a h → type_of (content_scope b) [] h ≡ Some (arrow (predicate a) a)
      go (inl e) = subst (λ x. type_of (content_scope b) [] x ≡ Some (arrow (predicate a) a)) (sym e) (ap (λ x. if x then Some (arrow (predicate a) a) else None) declared_here)
      go (inr e) = subst (λ x. type_of (content_scope b) [] x ≡ Some (arrow (predicate a) a)) (sym e) (ap (λ x. if x then Some (arrow (predicate a) a) else None) declared_here)

  operator_neutral : IsNeutral (content_scope b) [] (arrow (predicate a) a) h
  operator_neutral = go op
    where
      go : IsOperator a h → IsNeutral (content_scope b) [] (arrow (predicate a) a) h
      go (inl e) = subst (IsNeutral (content_scope b) [] (arrow (predicate a) a)) (sym e) (ap (λ x. if x then Some (arrow (predicate a) a) else None) declared_here)
      go (inr e) = subst (IsNeutral (content_scope b) [] (arrow (predicate a) a)) (sym e) (ap (λ x. if x then Some (arrow (predicate a) a) else None) declared_here)

  canonical-picked : IsCanonical (content_scope b) [] a (eta a (app h (term_at b.terms f)))
  canonical-picked = canonical-eta (content_scope b) [] a (app h (term_at b.terms f)) declared_here (predicate a, operator_neutral, p.predicate_in)

  pub operator_typed : (o : Option SimpleType) → o ≡ type_of (content_scope b) [] h → o ≡ None → ⊥
  operator_typed o e none = let q : None ≡ Some (arrow (predicate a) a) = sym none ∙ e ∙ operator_type in cc

  module _ (t : SimpleType) (is : Some t ≡ type_of (content_scope b) [] h) where
    type_is : t ≡ arrow (predicate a) a
    type_is = same_Some t (arrow (predicate a) a) (is ∙ operator_type)

    pub operator_fits : IsNeutralOf (content_scope b) t h
    operator_fits = subst (λ x. IsNeutralOf (content_scope b) x h) (sym type_is) (record { ctx = []; declared = type_declared; neutral = operator_neutral })

    module _ (c : Content) (v : ℕ) (g : Grows b c) (has : HasTerm c v (eta t h)) where
      operator_at : term_at c.terms v ≡ eta (arrow (predicate a) a) h
      operator_at = has_at c v (eta t h) has ∙ ap (λ x. eta x h) type_is

      pub picked_fits : AppliesIn (content_scope c) (term_at c.terms v) (term_at c.terms f)
      picked_fits =
          subst₂ (λ s u. AppliesIn s (term_at c.terms v) u) (sym (grown_scope b c g)) (sym (grown_at b c f g p.within))
          (subst (λ u. AppliesIn (content_scope b) u (term_at b.terms f)) (sym operator_at)
          (record { ctx = []; applies = record { argument = predicate a; result = a; function_in = canonical-eta (content_scope b) [] (arrow (predicate a) a) h type_declared operator_neutral; argument_in = p.predicate_in } }))

      module _ (d : Content) (w : ℕ) (k : Grows c d) (made : HasTerm d w (apply (term_at c.terms v) (term_at c.terms f))) where
        picked_at : term_at d.terms w ≡ eta a (app h (term_at b.terms f))
        picked_at =
            has_at d w (apply (term_at c.terms v) (term_at c.terms f)) made
            ∙ ap₂ apply operator_at (grown_at b c f g p.within)
            ∙ apply_each-eta (content_scope b) [] (arrow (predicate a) a) h (term_at b.terms f ∷ []) (p.predicate_in, tt)

        pub holds_fits : AppliesIn (content_scope d) (term_at d.terms f) (term_at d.terms w)
        holds_fits =
            let n = grows_on b c d g k in
            subst₂ (λ s u. AppliesIn s u (term_at d.terms w)) (sym (grown_scope b d n)) (sym (grown_at b d f n p.within))
            (subst (AppliesIn (content_scope b) (term_at b.terms f)) (sym picked_at)
            (record { ctx = []; applies = record { argument = a; result = formula; function_in = p.predicate_in; argument_in = canonical-picked } }))

        pub holds_made : (e : Content) (x : ℕ) → HasTerm e x (apply (term_at d.terms f) (term_at d.terms w)) → HasTerm e x (apply (term_at b.terms f) (eta a (app h (term_at b.terms f))))
        holds_made e x m = m ∙ ap Some (ap₂ apply (grown_at b d f (grows_on b c d g k) p.within) picked_at)
