-- Drafts over a bank that has grown.
use Rattle.std.proofs.Common.{◌≡◌, ℕ, true, false, List, [], ◌∷◌, Some, refl, sym, ap, subst, subst₂, ◌∙◌}
use Rattle.stt_core.specs.Lambda.{every, eq}
use Rattle.stt_core.specs.Canonical.{IsCanonical}
use Rattle.stt_core.specs.View.{the_type}
use Rattle.normal_forms.specs.Normal.{apply}
use Rattle.tableau_calculus.specs.Literals.{as_literal, opposite}
use Rattle.tableau_calculus.specs.Witnesses.{Row}
use Rattle.tableau_calculus.specs.Rules.{PlainRule, IsInstance, agreement}
use Rattle.tableau_calculus.specs.declared.rule_use.OnePlace.TheVariants.{FunPos, FunNeg}
use Rattle.tableau_calculus.specs.declared.rule_use.RuleUse.TheVariants.{AtOne, AllPos}
use Rattle.stt_core.specs.SimpleType.{arrow, formula}
use Rattle.tableau_calculus.proofs.EquationLaws.{eq_canonical}
use Rattle.tableau_rules.specs.Internal.Typed.{AreSides}
use Rattle.tableau_rules.specs.Internal.Functions.{AreFunctionsOf}
use Rattle.tableau_rules.specs.declared.function.Functions.{Functions}
use Rattle.tableau_calculus.proofs.InstanceLaws.{all_pos_is, fun_pos_is, fun_neg_is}
use Rattle.term_bank.specs.Content.{Content, content_scope, HasTerm, Grows}
use Rattle.term_bank.specs.Terms.{term_at}
use Rattle.term_bank.proofs.GrowLaws.{grown_scope, grown_at, has_at, has_within}
use Rattle.tableau_rules.specs.Internal.Drafted.{principal_at, alternatives_at, IsPrincipal, AreDraftedWithin, Drafted}
use Rattle.tableau_rules.specs.Internal.Parts.{IsQuantifiedOf}
use Rattle.tableau_rules.specs.declared.draft.Principal.{Principal}
use Rattle.tableau_rules.specs.declared.draft.Signed.{Signed}
use Rattle.tableau_rules.specs.declared.part.Quantified.{Quantified}
use Rattle.tableau_rules.proofs.DraftLaws.{stands, yes, nay}

pub principal_grown : (b c : Content) (p : Principal) → Grows b c → IsPrincipal b p → principal_at c p ≡ principal_at b p
principal_grown b c p g h = ap (λ t. record { positive = p.positive; atom = t }) (grown_at b c p.atom g h.within)

pub drafted_grown : (b c : Content) (rows : List Row) (p : Principal) (rule : PlainRule) (ds : List (List Signed)) → Grows b c → IsPrincipal b p → AreDraftedWithin c ds → IsInstance (content_scope b) rows (principal_at b p ∷ []) rule (alternatives_at c ds) → Drafted c rows (p ∷ []) rule (Some ds)
drafted_grown b c rows p rule ds g h w i =
    (w, subst₂ (λ s l. IsInstance s rows (l ∷ []) rule (alternatives_at c ds)) (sym (grown_scope b c g)) (sym (principal_grown b c p g h)) i)

pub all_pos_found : (b c : Content) (rows : List Row) (p : Principal) (q : Quantified) (u v : ℕ) (s : Signed) (ds : List (List Signed)) → Grows b c → IsPrincipal b p → p.positive ≡ true → IsQuantifiedOf b (term_at b.terms p.atom) (Some q) → IsCanonical (content_scope b) [] (the_type q.ty.now) (term_at b.terms u) → HasTerm c v (apply (term_at b.terms q.predicate) (term_at b.terms u)) → s ≡ yes v → ds ≡ (s ∷ []) ∷ [] → Drafted c rows (p ∷ []) (AllPos 0 (term_at b.terms u)) (Some ds)
all_pos_found b c rows p q u v s ds g h sign is canonical made hs e =
    subst (λ d. Drafted c rows (p ∷ []) (AllPos 0 (term_at b.terms u)) (Some d)) (sym (e ∙ ap (λ x. (x ∷ []) ∷ []) hs))
    (drafted_grown b c rows p (AllPos 0 (term_at b.terms u)) ((yes v ∷ []) ∷ []) g h ((has_within c v (apply (term_at b.terms q.predicate) (term_at b.terms u)) made, tt), tt)
    (all_pos_is (content_scope b) rows (principal_at b p ∷ []) 0 (the_type q.ty.now) (term_at b.terms q.predicate) (term_at b.terms u) (term_at c.terms v) (as_literal (term_at c.terms v)) (alternatives_at c ((yes v ∷ []) ∷ [])) (stands b p true (every (the_type q.ty.now) (term_at b.terms q.predicate)) sign is.0) canonical (has_at c v (apply (term_at b.terms q.predicate) (term_at b.terms u)) made) refl refl))

-- EQUATIONS BETWEEN FUNCTIONS

pub functions_sides : (b : Content) (p : Principal) (f : Functions) → IsPrincipal b p → AreFunctionsOf b (term_at b.terms p.atom) (Some f) → AreSides b (arrow (the_type f.argument) (the_type f.outcome)) f.left f.right
functions_sides b p f h is =
    let e = eq_canonical (content_scope b) (arrow (the_type f.argument) (the_type f.outcome)) (term_at b.terms f.left) (term_at b.terms f.right) (subst (IsCanonical (content_scope b) [] formula) is.0 h.typed.formula) in
    record { left_within = is.1; right_within = is.2; declared = e.declared; left = e.left; right = e.right }

module _ (b c : Content) (rows : List Row) (p : Principal) (f : Functions) (v : ℕ) (s : Signed) (ds : List (List Signed)) (g : Grows b c) (h : IsPrincipal b p) (is : AreFunctionsOf b (term_at b.terms p.atom) (Some f)) (made : HasTerm c v (agreement (the_type f.argument) (the_type f.outcome) (term_at b.terms f.left) (term_at b.terms f.right))) (e : ds ≡ (s ∷ []) ∷ []) where
  pub fun_pos_found : p.positive ≡ true → s ≡ yes v → Drafted c rows (p ∷ []) (AtOne FunPos 0) (Some ds)
  fun_pos_found sign hs =
      subst (λ d. Drafted c rows (p ∷ []) (AtOne FunPos 0) (Some d)) (sym (e ∙ ap (λ x. (x ∷ []) ∷ []) hs))
      (drafted_grown b c rows p (AtOne FunPos 0) ((yes v ∷ []) ∷ []) g h ((has_within c v (agreement (the_type f.argument) (the_type f.outcome) (term_at b.terms f.left) (term_at b.terms f.right)) made, tt), tt)
      (fun_pos_is (content_scope b) rows (principal_at b p ∷ []) 0 (arrow (the_type f.argument) (the_type f.outcome)) (the_type f.argument) (the_type f.outcome) (term_at b.terms f.left) (term_at b.terms f.right) (term_at c.terms v) (as_literal (term_at c.terms v)) (alternatives_at c ((yes v ∷ []) ∷ []))
      (stands b p true (eq (arrow (the_type f.argument) (the_type f.outcome)) (term_at b.terms f.left) (term_at b.terms f.right)) sign is.0) refl (has_at c v (agreement (the_type f.argument) (the_type f.outcome) (term_at b.terms f.left) (term_at b.terms f.right)) made) refl refl))

  pub fun_neg_found : p.positive ≡ false → s ≡ nay v → Drafted c rows (p ∷ []) (AtOne FunNeg 0) (Some ds)
  fun_neg_found sign hs =
      subst (λ d. Drafted c rows (p ∷ []) (AtOne FunNeg 0) (Some d)) (sym (e ∙ ap (λ x. (x ∷ []) ∷ []) hs))
      (drafted_grown b c rows p (AtOne FunNeg 0) ((nay v ∷ []) ∷ []) g h ((has_within c v (agreement (the_type f.argument) (the_type f.outcome) (term_at b.terms f.left) (term_at b.terms f.right)) made, tt), tt)
      (fun_neg_is (content_scope b) rows (principal_at b p ∷ []) 0 (arrow (the_type f.argument) (the_type f.outcome)) (the_type f.argument) (the_type f.outcome) (term_at b.terms f.left) (term_at b.terms f.right) (term_at c.terms v) (as_literal (term_at c.terms v)) (opposite (as_literal (term_at c.terms v))) (alternatives_at c ((nay v ∷ []) ∷ []))
      (stands b p false (eq (arrow (the_type f.argument) (the_type f.outcome)) (term_at b.terms f.left) (term_at b.terms f.right)) sign is.0) refl (has_at c v (agreement (the_type f.argument) (the_type f.outcome) (term_at b.terms f.left) (term_at b.terms f.right)) made) refl refl refl))
