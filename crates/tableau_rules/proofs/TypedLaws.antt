-- Terms that fit together, and formulas made of them.
use Rattle.std.proofs.Common.{◌≡◌, ◌<◌, ℕ, true, List, [], ◌∷◌, Some, length, refl, sym, ap, ap₂, subst, ◌∙◌, subst₂, zero, suc, get_or, arith}
use Rattle.std.specs.Prelude.{All}
use Rattle.stt_core.specs.SimpleType.{SimpleType, formula, arrow, predicate, is_declared}
use Rattle.stt_core.specs.Lambda.{Lambda, bound, lam, eq, every, applied}
use Rattle.stt_core.specs.Canonical.{IsCanonical}
use Rattle.stt_core.specs.Lift.{lift}
use Rattle.normal_forms.specs.Normal.{eta}
use Rattle.normal_forms.specs.Internal.Applying.{body_under}
use Rattle.normal_forms.proofs.NormalValues.{canonical-eta}
use Rattle.tableau_calculus.specs.Rules.{at_new, agreement}
use Rattle.tableau_calculus.proofs.EquationLaws.{canonical-eq}
use Rattle.term_bank.specs.Content.{Content, content_scope, HasTerm, Grows}
use Rattle.term_bank.specs.Terms.{term_at, IsTypedTerm}
use Rattle.bank_normal.specs.Fits.{AppliesIn}
use Rattle.bank_normal.proofs.ReplaceLaws.{no_function_spine}
use Rattle.conv_laws.specs.Laws.{FunctionsAreLambdas}
use Rattle.stt_core.proofs.SpineLaws.{IsAtom}
use Rattle.std.proofs.lemmas.Bool.{and_parts}
use Rattle.bank_normal.proofs.LiftLaws.{lift_by_none}
use Rattle.normal_forms.proofs.CanonicalLaws.{canonical-lift}
use Rattle.tableau_calculus.proofs.FunctionLaws.{canonical-every, canonical-at_new}
use Rattle.term_bank.proofs.GrowLaws.{grown_scope, grown_at, grown_within, grown_term, has_at, has_within, at_has}
use Rattle.tableau_rules.proofs.ClosedLaws.{missing_none}
use Rattle.tableau_rules.specs.Internal.Typed.{AreSides, IsFunction, IsOpenFormula}

pub equation_typed : (b : Content) (a c : SimpleType) (s t : ℕ) → c ≡ a → AreSides b a s t → IsTypedTerm (content_scope b) (eq c (term_at b.terms s) (term_at b.terms t))
equation_typed b a c s t e h =
    subst (λ x. IsTypedTerm (content_scope b) (eq x (term_at b.terms s) (term_at b.terms t))) (sym e)
    (record { ctx = []; type = formula; canonical = canonical-eq (content_scope b) a (term_at b.terms s) (term_at b.terms t) [] (record { declared = h.declared; left = h.left; right = h.right }) })

module _ (b c : Content) (g : Grows b c) where
  pub canonical_grown : (ctx : List SimpleType) (a : SimpleType) (i : ℕ) → i < length b.terms → IsCanonical (content_scope b) ctx a (term_at b.terms i) → IsCanonical (content_scope c) ctx a (term_at c.terms i)
  canonical_grown ctx a i w h = subst₂ (λ s t. IsCanonical s ctx a t) (sym (grown_scope b c g)) (sym (grown_at b c i g w)) h

  pub declared_grown : (a : SimpleType) → is_declared (content_scope b).bases a ≡ true → is_declared (content_scope c).bases a ≡ true
  declared_grown a h = subst (λ s. is_declared s.bases a ≡ true) (sym (grown_scope b c g)) h

  pub sides_grown : (a : SimpleType) (s t : ℕ) → AreSides b a s t → AreSides c a s t
  sides_grown a s t h = record { left_within = grown_within b c s g h.left_within; right_within = grown_within b c t g h.right_within; declared = declared_grown a h.declared; left = canonical_grown [] a s h.left_within h.left; right = canonical_grown [] a t h.right_within h.right }

-- WHAT A CLOSED FUNCTION GIVES AT A NEW VARIABLE

unlifted : (b : Content) (a : SimpleType) (f : ℕ) → IsFunction b a f → lift 0 (term_at b.terms f) ≡ term_at b.terms f
unlifted b a f h = lift_by_none 1 0 (term_at b.terms f) (missing_none (content_scope b) (arrow a h.result) (term_at b.terms f) h.function_in)

module _ (b : Content) (a : SimpleType) (f : ℕ) (h : IsFunction b a f) where
  new_applies : AppliesIn (content_scope b) (term_at b.terms f) (eta a (bound 0))
  new_applies =
      let lifted : IsCanonical (content_scope b) (a ∷ []) (arrow a h.result) (term_at b.terms f) =
      subst (IsCanonical (content_scope b) (a ∷ []) (arrow a h.result)) (unlifted b a f h) (canonical-lift (content_scope b) [] a [] (arrow a h.result) (term_at b.terms f) h.function_in) in
      record { ctx = a ∷ []; applies = record { argument = a; result = h.result; function_in = lifted; argument_in = canonical-eta (content_scope b) (a ∷ []) a (bound 0) h.declared refl } }

  -- a function is no head with arguments
  pub function_no_spine : (t : Lambda) (us : List Lambda) → IsAtom t → term_at b.terms f ≡ applied t us → ⊥
  function_no_spine t us o e = no_function_spine (content_scope b) t us (term_at b.terms f) (eta a (bound 0)) o e new_applies

  -- what stands under its binder
  pub new_made : FunctionsAreLambdas → (c : SimpleType) (i : ℕ) → i < length b.terms → term_at b.terms f ≡ lam c (term_at b.terms i) → HasTerm b i (at_new a (term_at b.terms f))
  new_made law c i w e =
      at_has b i w ∙ ap Some (sym (ap (body_under 1) (law (content_scope b) [] a h.result (term_at b.terms f) h.function_in ∙ e)))

-- WHAT HOLDS EVERYWHERE

pub open_typed : (b : Content) (a : SimpleType) (s : ℕ) → IsOpenFormula b a s → IsTypedTerm (content_scope b) (lam a (term_at b.terms s))
open_typed b a s h = record { ctx = h.outer; type = predicate a; canonical = (h.declared, (refl, h.formula_in)) }

pub one_within : (b : Content) (i : ℕ) (t : Lambda) → HasTerm b i t → All (λ j. j < length b.terms) (i ∷ [])
one_within b i t h = go
  where
    go : (k d : ℕ) → k < 1 → get_or (i ∷ []) k d < length b.terms
    go zero d l = has_within b i t h
    go (suc k) d l = absurd (omega (arith, l))

module _ (b c : Content) (a : SimpleType) (s p : ℕ) (h : IsOpenFormula b a s) (g : Grows b c) (predicate_has : HasTerm c p (lam a (term_at b.terms s))) where
  pub every_typed : (x : SimpleType) → x ≡ a → IsTypedTerm (content_scope c) (every x (term_at c.terms p))
  every_typed x e =
      subst₂ (λ y t. IsTypedTerm (content_scope c) (every y t)) (sym e) (sym (has_at c p (lam a (term_at b.terms s)) predicate_has))
      (subst (λ y. IsTypedTerm y (every a (lam a (term_at b.terms s)))) (sym (grown_scope b c g))
      (record { ctx = h.outer; type = formula; canonical = canonical-every (content_scope b) h.outer a (lam a (term_at b.terms s)) h.declared (h.declared, (refl, h.formula_in)) }))

  pub every_made : (d : Content) (id : ℕ) (x : SimpleType) → x ≡ a → HasTerm d id (every x (term_at c.terms p)) → HasTerm d id (every a (lam a (term_at b.terms s)))
  every_made d id x e m = m ∙ ap₂ (λ y t. Some (every y t)) e (has_at c p (lam a (term_at b.terms s)) predicate_has)

-- WHERE TWO FUNCTIONS AGREE, AND WHERE A PREDICATE HOLDS NOWHERE

pub left_function : (b : Content) (a r : SimpleType) (s t : ℕ) → AreSides b (arrow a r) s t → IsFunction b a s
left_function b a r s t h = record { within = h.left_within; declared = (and_parts _ _ h.declared).0; result = r; function_in = h.left }

pub right_function : (b : Content) (a r : SimpleType) (s t : ℕ) → AreSides b (arrow a r) s t → IsFunction b a t
right_function b a r s t h = record { within = h.right_within; declared = (and_parts _ _ h.declared).0; result = r; function_in = h.right }

at_new_in : (b : Content) (a r : SimpleType) (s : ℕ) → is_declared (content_scope b).bases a ≡ true → IsCanonical (content_scope b) [] (arrow a r) (term_at b.terms s) → IsCanonical (content_scope b) (a ∷ []) r (at_new a (term_at b.terms s))
at_new_in b a r s d h = canonical-at_new (content_scope b) [] a r (term_at b.terms s) d h

module _ (b c d : Content) (a r : SimpleType) (s t i j : ℕ) (h : AreSides b (arrow a r) s t) (g : Grows b c) (k : Grows c d) (left : HasTerm c i (at_new a (term_at b.terms s))) (right : HasTerm d j (at_new a (term_at c.terms t))) where
  left_at : term_at d.terms i ≡ at_new a (term_at b.terms s)
  left_at = has_at d i (at_new a (term_at b.terms s)) (grown_term c d i (at_new a (term_at b.terms s)) k left)

  right_at : term_at d.terms j ≡ at_new a (term_at b.terms t)
  right_at = has_at d j (at_new a (term_at c.terms t)) right ∙ ap (at_new a) (grown_at b c t g h.right_within)

  same_scope : content_scope d ≡ content_scope b
  same_scope = grown_scope c d k ∙ grown_scope b c g

  agreeing : IsCanonical (content_scope d) (a ∷ []) formula (eq r (term_at d.terms i) (term_at d.terms j))
  agreeing =
      let parts = and_parts _ _ h.declared in
      subst (λ x. IsCanonical x (a ∷ []) formula (eq r (term_at d.terms i) (term_at d.terms j))) (sym same_scope)
      (subst₂ (λ x y. IsCanonical (content_scope b) (a ∷ []) formula (eq r x y)) (sym left_at) (sym right_at)
      (canonical-eq (content_scope b) r (at_new a (term_at b.terms s)) (at_new a (term_at b.terms t)) (a ∷ []) (record { declared = parts.1; left = at_new_in b a r s parts.0 h.left; right = at_new_in b a r t parts.0 h.right })))

  pub agreeing_typed : (x : SimpleType) → x ≡ r → IsTypedTerm (content_scope d) (eq x (term_at d.terms i) (term_at d.terms j))
  agreeing_typed x e = subst (λ y. IsTypedTerm (content_scope d) (eq y (term_at d.terms i) (term_at d.terms j))) (sym e) (record { ctx = a ∷ []; type = formula; canonical = agreeing })

  pub both_within : All (λ n. n < length d.terms) (i ∷ j ∷ [])
  both_within = go
    where
      go : (n m : ℕ) → n < 2 → get_or (i ∷ j ∷ []) n m < length d.terms
      go zero m l = grown_within c d i k (has_within c i (at_new a (term_at b.terms s)) left)
      go (suc zero) m l = has_within d j (at_new a (term_at c.terms t)) right
      go (suc (suc n)) m l = absurd (omega (arith, l))

  module _ (e : Content) (q : ℕ) (x : SimpleType) (same : x ≡ r) (m : Grows d e) (body : HasTerm e q (eq x (term_at d.terms i) (term_at d.terms j))) where
    body_at : term_at e.terms q ≡ eq r (term_at d.terms i) (term_at d.terms j)
    body_at = has_at e q (eq x (term_at d.terms i) (term_at d.terms j)) body ∙ ap (λ y. eq y (term_at d.terms i) (term_at d.terms j)) same

    pub agreeing_open : IsOpenFormula e a q
    agreeing_open = record {
      within = has_within e q (eq x (term_at d.terms i) (term_at d.terms j)) body;
      declared = declared_grown d e m a (declared_grown c d k a (declared_grown b c g a (and_parts _ _ h.declared).0));
      outer = [];
      formula_in = subst₂ (λ y z. IsCanonical y (a ∷ []) formula z) (sym (grown_scope d e m)) (sym body_at) agreeing;
    }

    pub agreement_made : (f : Content) (id : ℕ) → HasTerm f id (every a (lam a (term_at e.terms q))) → HasTerm f id (agreement a r (term_at b.terms s) (term_at b.terms t))
    agreement_made f id w = w ∙ ap (λ z. Some (every a (lam a z))) (body_at ∙ ap₂ (eq r) left_at right_at)
