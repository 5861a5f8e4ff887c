-- Drafts that are the alternatives of a rule.
use Rattle.std.proofs.Common.{◌≡◌, ℕ, Bool, true, false, not, List, [], ◌∷◌, Some, None, refl, sym, ap, ap₂, subst, ◌∙◌}
use Rattle.std.specs.Bool.{beq}
use Rattle.stt_core.specs.SimpleType.{formula}
use Rattle.stt_core.specs.Lambda.{falsity, Lambda, constant, imp, eq}
use Rattle.stt_core.specs.View.{the_type}
use Rattle.tableau_calculus.specs.Literals.{plus, opposite, as_literal}
use Rattle.tableau_calculus.specs.Witnesses.{Row}
use Rattle.tableau_calculus.specs.declared.rule_use.OnePlace.TheVariants.{False, Refl, ImpPos, ImpNeg, BoolPos, BoolNeg}
use Rattle.tableau_calculus.specs.declared.rule_use.TwoPlaces.TheVariants.{Close}
use Rattle.tableau_calculus.specs.declared.rule_use.RuleUse.TheVariants.{AtOne, AtTwo, Cut}
use Rattle.tableau_calculus.proofs.InstanceLaws.{false_is, close_is, imp_pos_is, imp_neg_is, refl_is, bool_pos_is, bool_neg_is, cut_is}
use Rattle.term_bank.specs.Content.{Content, content_scope}
use Rattle.term_bank.specs.Terms.{term_at}
use Rattle.literal_map.proofs.SignLaws.{unsigned_literal}
use Rattle.tableau_rules.specs.Internal.Drafted.{principal_at, signed_at, alternatives_at, IsPrincipal, Drafted}
use Rattle.tableau_rules.specs.Internal.Parts.{IsImplicationOf, IsEquationOf}
use Rattle.tableau_rules.specs.declared.draft.Principal.{Principal}
use Rattle.tableau_rules.specs.declared.draft.Signed.{Signed}
use Rattle.tableau_rules.specs.declared.part.Sides.{Sides}
use Rattle.tableau_rules.specs.declared.part.Equation.{Equation}
use Rattle.tableau_rules.proofs.FoundLaws.{bool_pos_none, bool_neg_none}

abbrev pub yes : ℕ → Signed
yes i = record { formula = i; positive = true }

abbrev pub nay : ℕ → Signed
nay i = record { formula = i; positive = false }

pub stands : (b : Content) (p : Principal) (sign : Bool) (t : Lambda) → p.positive ≡ sign → term_at b.terms p.atom ≡ t → Some (principal_at b p) ≡ Some (record { positive = sign; atom = t })
stands b p sign t h g = λ i. Some (record { positive = h i; atom = g i })

pub other_sign : (x y : Bool) → beq x y ≡ false → y ≡ not x
other_sign true true h = cc
other_sign true false h = refl
other_sign false true h = refl
other_sign false false h = cc

module _ (b : Content) (rows : List Row) (p : Principal) where
  pub false_found : (ds : List (List Signed)) → p.positive ≡ true → term_at b.terms p.atom ≡ constant falsity → ds ≡ [] → Drafted b rows (p ∷ []) (AtOne False 0) (Some ds)
  false_found ds h g e = subst (λ d. Drafted b rows (p ∷ []) (AtOne False 0) (Some d)) (sym e) (tt, false_is (content_scope b) rows (principal_at b p ∷ []) 0 [] (stands b p true (constant falsity) h g) refl)

  pub imp_pos_found : (s : Sides) (l r : Signed) (ds : List (List Signed)) → p.positive ≡ true → IsImplicationOf b (term_at b.terms p.atom) (Some s) → l ≡ nay s.left → r ≡ yes s.right → ds ≡ (l ∷ []) ∷ (r ∷ []) ∷ [] → Drafted b rows (p ∷ []) (AtOne ImpPos 0) (Some ds)
  imp_pos_found s l r ds h g hl hr e =
      subst (λ d. Drafted b rows (p ∷ []) (AtOne ImpPos 0) (Some d)) (sym (e ∙ ap₂ (λ x y. (x ∷ []) ∷ (y ∷ []) ∷ []) hl hr))
      (((g.1, tt), ((g.2, tt), tt)), imp_pos_is (content_scope b) rows (principal_at b p ∷ []) 0 (term_at b.terms s.left) (term_at b.terms s.right) (opposite (as_literal (term_at b.terms s.left))) (as_literal (term_at b.terms s.right)) (alternatives_at b ((nay s.left ∷ []) ∷ (yes s.right ∷ []) ∷ [])) (stands b p true (imp (term_at b.terms s.left) (term_at b.terms s.right)) h g.0) refl refl refl)

  pub imp_neg_found : (s : Sides) (l r : Signed) (ds : List (List Signed)) → p.positive ≡ false → IsImplicationOf b (term_at b.terms p.atom) (Some s) → l ≡ yes s.left → r ≡ nay s.right → ds ≡ (l ∷ r ∷ []) ∷ [] → Drafted b rows (p ∷ []) (AtOne ImpNeg 0) (Some ds)
  imp_neg_found s l r ds h g hl hr e =
      subst (λ d. Drafted b rows (p ∷ []) (AtOne ImpNeg 0) (Some d)) (sym (e ∙ ap₂ (λ x y. (x ∷ y ∷ []) ∷ []) hl hr))
      (((g.1, (g.2, tt)), tt), imp_neg_is (content_scope b) rows (principal_at b p ∷ []) 0 (term_at b.terms s.left) (term_at b.terms s.right) (as_literal (term_at b.terms s.left)) (opposite (as_literal (term_at b.terms s.right))) (alternatives_at b ((yes s.left ∷ nay s.right ∷ []) ∷ [])) (stands b p false (imp (term_at b.terms s.left) (term_at b.terms s.right)) h g.0) refl refl refl)

  pub refl_found : (q : Equation) (ds : List (List Signed)) → p.positive ≡ false → IsEquationOf b (term_at b.terms p.atom) (Some q) → term_at b.terms q.left ≡ term_at b.terms q.right → ds ≡ [] → Drafted b rows (p ∷ []) (AtOne Refl 0) (Some ds)
  refl_found q ds h g same e =
      subst (λ d. Drafted b rows (p ∷ []) (AtOne Refl 0) (Some d)) (sym e) (tt, refl_is (content_scope b) rows (principal_at b p ∷ []) 0 (the_type q.ty.now) (term_at b.terms q.left) (term_at b.terms q.right) [] (stands b p false (eq (the_type q.ty.now) (term_at b.terms q.left) (term_at b.terms q.right)) h g.0) same refl)

  pub bool_pos_found : (q : Equation) (ds : List (List Signed)) → p.positive ≡ true → IsEquationOf b (term_at b.terms p.atom) (Some q) → the_type q.ty.now ≡ formula → ds ≡ (yes q.left ∷ yes q.right ∷ []) ∷ (nay q.left ∷ nay q.right ∷ []) ∷ [] → Drafted b rows (p ∷ []) (AtOne BoolPos 0) (Some ds)
  bool_pos_found q ds h g is e =
      subst (λ d. Drafted b rows (p ∷ []) (AtOne BoolPos 0) (Some d)) (sym e)
      (((g.1, (g.2, tt)), ((g.1, (g.2, tt)), tt)), bool_pos_is (content_scope b) rows (principal_at b p ∷ []) 0 (the_type q.ty.now) (term_at b.terms q.left) (term_at b.terms q.right) (alternatives_at b ((yes q.left ∷ yes q.right ∷ []) ∷ (nay q.left ∷ nay q.right ∷ []) ∷ [])) (stands b p true (eq (the_type q.ty.now) (term_at b.terms q.left) (term_at b.terms q.right)) h g.0) is refl)

  pub bool_neg_found : (q : Equation) (ds : List (List Signed)) → p.positive ≡ false → IsEquationOf b (term_at b.terms p.atom) (Some q) → the_type q.ty.now ≡ formula → ds ≡ (yes q.left ∷ nay q.right ∷ []) ∷ (nay q.left ∷ yes q.right ∷ []) ∷ [] → Drafted b rows (p ∷ []) (AtOne BoolNeg 0) (Some ds)
  bool_neg_found q ds h g is e =
      subst (λ d. Drafted b rows (p ∷ []) (AtOne BoolNeg 0) (Some d)) (sym e)
      (((g.1, (g.2, tt)), ((g.1, (g.2, tt)), tt)), bool_neg_is (content_scope b) rows (principal_at b p ∷ []) 0 (the_type q.ty.now) (term_at b.terms q.left) (term_at b.terms q.right) (alternatives_at b ((yes q.left ∷ nay q.right ∷ []) ∷ (nay q.left ∷ yes q.right ∷ []) ∷ [])) (stands b p false (eq (the_type q.ty.now) (term_at b.terms q.left) (term_at b.terms q.right)) h g.0) is refl)

  pub bool_pos_not : (q : Equation) → IsEquationOf b (term_at b.terms p.atom) (Some q) → (the_type q.ty.now ≡ formula → ⊥) → Drafted b rows (p ∷ []) (AtOne BoolPos 0) None
  bool_pos_not q g differ = bool_pos_none (content_scope b) rows (principal_at b p) (λ s t e.
      let a : eq (the_type q.ty.now) (term_at b.terms q.left) (term_at b.terms q.right) ≡ eq formula s t = sym g.0 ∙ ap (λ l. l.atom) e in
      let same : the_type q.ty.now ≡ formula = cc in
      differ same)

  pub bool_neg_not : (q : Equation) → IsEquationOf b (term_at b.terms p.atom) (Some q) → (the_type q.ty.now ≡ formula → ⊥) → Drafted b rows (p ∷ []) (AtOne BoolNeg 0) None
  bool_neg_not q g differ = bool_neg_none (content_scope b) rows (principal_at b p) (λ s t e.
      let a : eq (the_type q.ty.now) (term_at b.terms q.left) (term_at b.terms q.right) ≡ eq formula s t = sym g.0 ∙ ap (λ l. l.atom) e in
      let same : the_type q.ty.now ≡ formula = cc in
      differ same)

  pub cut_found : (l r : Signed) (ds : List (List Signed)) → IsPrincipal b p → l ≡ record { formula = p.atom; positive = p.positive } → r ≡ record { formula = p.atom; positive = not p.positive } → ds ≡ (l ∷ []) ∷ (r ∷ []) ∷ [] → Drafted b rows [] (Cut (principal_at b p)) (Some ds)
  cut_found l r ds h hl hr e =
      subst (λ d. Drafted b rows [] (Cut (principal_at b p)) (Some d)) (sym (e ∙ ap₂ (λ x y. (x ∷ []) ∷ (y ∷ []) ∷ []) hl hr))
      (((h.within, tt), ((h.within, tt), tt)), cut_is (content_scope b) rows [] (principal_at b p) (signed_at b (record { formula = p.atom; positive = p.positive })) (signed_at b (record { formula = p.atom; positive = not p.positive })) (alternatives_at b ((record { formula = p.atom; positive = p.positive } ∷ []) ∷ (record { formula = p.atom; positive = not p.positive } ∷ []) ∷ [])) h.typed (left p.positive) (right p.positive) refl)
    where
      plain : as_literal (term_at b.terms p.atom) ≡ plus (term_at b.terms p.atom)
      plain = sym (unsigned_literal (term_at b.terms p.atom) h.typed.unsigned)

      left : (s : Bool) → signed_at b (record { formula = p.atom; positive = s }) ≡ record { positive = s; atom = term_at b.terms p.atom }
      left true = plain
      left false = ap opposite plain

      right : (s : Bool) → signed_at b (record { formula = p.atom; positive = not s }) ≡ opposite (record { positive = s; atom = term_at b.terms p.atom })
      right true = ap opposite plain
      right false = plain

  pub close_found : (q : Principal) (ds : List (List Signed)) → q.positive ≡ not p.positive → term_at b.terms p.atom ≡ term_at b.terms q.atom → ds ≡ [] → Drafted b rows (p ∷ q ∷ []) (AtTwo Close 0 1) (Some ds)
  close_found q ds h g e =
      subst (λ d. Drafted b rows (p ∷ q ∷ []) (AtTwo Close 0 1) (Some d)) (sym e) (tt, close_is (content_scope b) rows (principal_at b p ∷ principal_at b q ∷ []) 0 1 (principal_at b p) (principal_at b q) [] refl refl (λ i. record { positive = h i; atom = sym g i }) refl)
