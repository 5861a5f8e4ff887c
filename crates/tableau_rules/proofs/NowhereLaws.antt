-- The formula that a predicate holds nowhere.
use Rattle.std.proofs.Common.{◌≡◌, ℕ, true, [], ◌∷◌, Some, refl, sym, ap, subst₂, ◌∙◌}
use Rattle.stt_core.specs.SimpleType.{SimpleType, formula, is_declared}
use Rattle.stt_core.specs.Lambda.{lam, neg, every}
use Rattle.stt_core.specs.Canonical.{IsCanonical}
use Rattle.tableau_calculus.specs.Rules.{at_new, nowhere}
use Rattle.tableau_calculus.proofs.FunctionLaws.{canonical-at_new, predicate_declared}
use Rattle.term_bank.specs.Content.{Content, content_scope, HasTerm, Grows}
use Rattle.term_bank.specs.Terms.{term_at, IsTypedTerm}
use Rattle.term_bank.proofs.GrowLaws.{grown_scope, has_at, has_within}
use Rattle.tableau_rules.specs.Internal.Typed.{IsFunction, IsPredicate, IsOpenFormula}
use Rattle.tableau_rules.proofs.TypedLaws.{declared_grown}

pub predicate_function : (b : Content) (a : SimpleType) (f : ℕ) → IsPredicate b a f → IsFunction b a f
predicate_function b a f h = record { within = h.within; declared = predicate_declared (content_scope b) a (term_at b.terms f) h.predicate_in; result = formula; function_in = h.predicate_in }

module _ (b c : Content) (a : SimpleType) (f v : ℕ) (h : IsPredicate b a f) (g : Grows b c) (value : HasTerm c v (at_new a (term_at b.terms f))) where
  is_declared_type : is_declared (content_scope b).bases a ≡ true
  is_declared_type = predicate_declared (content_scope b) a (term_at b.terms f) h.predicate_in

  denied : IsCanonical (content_scope c) (a ∷ []) formula (neg (term_at c.terms v))
  denied =
      subst₂ (λ s t. IsCanonical s (a ∷ []) formula (neg t)) (sym (grown_scope b c g)) (sym (has_at c v (at_new a (term_at b.terms f)) value))
      (tt, (formula, refl, canonical-at_new (content_scope b) [] a formula (term_at b.terms f) is_declared_type h.predicate_in))

  pub denied_typed : IsTypedTerm (content_scope c) (neg (term_at c.terms v))
  denied_typed = record { ctx = a ∷ []; type = formula; canonical = denied }

  module _ (d : Content) (n : ℕ) (k : Grows c d) (body : HasTerm d n (neg (term_at c.terms v))) where
    pub denied_open : IsOpenFormula d a n
    denied_open = record {
      within = has_within d n (neg (term_at c.terms v)) body;
      declared = declared_grown c d k a (declared_grown b c g a is_declared_type);
      outer = [];
      formula_in = subst₂ (λ s t. IsCanonical s (a ∷ []) formula t) (sym (grown_scope c d k)) (sym (has_at d n (neg (term_at c.terms v)) body)) denied;
    }

    pub nowhere_made : (e : Content) (id : ℕ) → HasTerm e id (every a (lam a (term_at d.terms n))) → HasTerm e id (nowhere a (term_at b.terms f))
    nowhere_made e id w = w ∙ ap (λ t. Some (every a (lam a t))) (has_at d n (neg (term_at c.terms v)) body ∙ ap neg (has_at c v (at_new a (term_at b.terms f)) value))
