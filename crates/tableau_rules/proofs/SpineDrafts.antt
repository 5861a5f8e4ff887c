-- Drafts of the rules that compare the arguments of one head.
use Rattle.std.proofs.Common.{◌≡◌, ℕ, suc, true, false, List, [], ◌∷◌, Some, None, Option, sym, ap, ap₂, subst, subst₂, ◌∙◌}
use Rattle.std.proofs.lemmas.Option.{same_Some}
use Rattle.stt_core.specs.SimpleType.{base}
use Rattle.stt_core.specs.Lambda.{Constant, Lambda, constant, eq, applied}
use Rattle.stt_core.specs.View.{the_type}
use Rattle.tableau_calculus.specs.Literals.{plus, minus}
use Rattle.tableau_calculus.specs.Rules.{IsDecomposed, differ_each, mat_rule, dec_rule, AreAt, IsInstance}
use Rattle.tableau_calculus.specs.Witnesses.{Row}
use Rattle.tableau_calculus.specs.declared.rule_use.OnePlace.TheVariants.{Dec}
use Rattle.tableau_calculus.specs.declared.rule_use.TwoPlaces.TheVariants.{Mat}
use Rattle.tableau_calculus.specs.declared.rule_use.RuleUse.TheVariants.{AtOne, AtTwo}
use Rattle.tableau_calculus.proofs.InstanceLaws.{fits}
use Rattle.term_bank.specs.Content.{Content, content_scope, Grows}
use Rattle.term_bank.specs.Terms.{term_at}
use Rattle.term_bank.proofs.GrowLaws.{grown_scope}
use Rattle.tableau_rules.specs.Internal.Compared.{AreComparedBy}
use Rattle.tableau_rules.specs.Internal.Drafted.{principal_at, alternatives_at, IsPrincipal, Drafted}
use Rattle.tableau_rules.specs.Internal.Parts.{IsEquationOf}
use Rattle.tableau_rules.specs.declared.draft.Principal.{Principal}
use Rattle.tableau_rules.specs.declared.draft.Signed.{Signed}
use Rattle.tableau_rules.specs.declared.part.Equation.{Equation}
use Rattle.tableau_rules.proofs.DraftLaws.{stands}
use Rattle.tableau_rules.proofs.GrownLaws.{principal_grown, drafted_grown}

module _ (b d : Content) (rows : List Row) (g : Grows b d) (p : Principal) (hp : IsPrincipal b p) where
  pub mat_found : (q : Principal) → IsPrincipal b q → p.positive ≡ true → q.positive ≡ false → (o : Option (List (List Signed))) → AreComparedBy b d (term_at b.terms p.atom) (term_at b.terms q.atom) o → Drafted d rows (p ∷ q ∷ []) (AtTwo Mat 0 1) o
  mat_found q hq sp sq (Some ds) h =
      let left = applied (constant h.head) (h.left_first ∷ h.left_rest) in
      let right = applied (constant h.head) (h.right_first ∷ h.right_rest) in
      let all : IsInstance (content_scope b) rows (principal_at b p ∷ principal_at b q ∷ []) (AtTwo Mat 0 1) (differ_each h.type (h.left_first ∷ h.left_rest) (h.right_first ∷ h.right_rest)) =
      record {
        principals = plus left ∷ minus right ∷ [];
        at_places = (stands b p true left sp h.left_is, (stands b q false right sq h.right_is, tt));
        fits = mat_rule 0 1 h.head h.type h.left_first h.right_first h.left_rest h.right_rest h.decomposed h.has_type;
      } in
      let here = subst (IsInstance (content_scope b) rows (principal_at b p ∷ principal_at b q ∷ []) (AtTwo Mat 0 1)) (sym h.alternatives) all in
      let grown = subst₂ (λ l m. IsInstance (content_scope b) rows (l ∷ m ∷ []) (AtTwo Mat 0 1) (alternatives_at d ds)) (sym (principal_grown b d p g hp)) (sym (principal_grown b d q g hq)) here in
      (h.within, subst (λ s. IsInstance s rows (principal_at d p ∷ principal_at d q ∷ []) (AtTwo Mat 0 1) (alternatives_at d ds)) (sym (grown_scope b d g)) grown)
  mat_found q hq sp sq None h = λ as' k.
      let f = fits (content_scope d) rows (AtTwo Mat 0 1) k.principals as' k.fits in
      let at = subst (AreAt (principal_at d p ∷ principal_at d q ∷ []) (0 ∷ 1 ∷ [])) f.8 k.at_places in
      h f.0 f.2 f.3 f.4 f.5 f.6
      (ap (λ l. l.atom) (sym (principal_grown b d p g hp) ∙ same_Some (principal_at d p) (plus (applied (constant f.0) (f.2 ∷ f.4))) at.0))
      (ap (λ l. l.atom) (sym (principal_grown b d q g hq) ∙ same_Some (principal_at d q) (minus (applied (constant f.0) (f.3 ∷ f.5))) at.1.0))

  dec_none : ((n : ℕ) (c : Constant) (u v : Lambda) (us vs : List Lambda) → IsDecomposed c → term_at b.terms p.atom ≡ eq (base (suc n)) (applied (constant c) (u ∷ us)) (applied (constant c) (v ∷ vs)) → ⊥) → Drafted d rows (p ∷ []) (AtOne Dec 0) None
  dec_none none = λ as' k.
      let f = fits (content_scope d) rows (AtOne Dec 0) k.principals as' k.fits in
      let at = subst (AreAt (principal_at d p ∷ []) (0 ∷ [])) f.9 k.at_places in
      none f.0 f.1 f.3 f.4 f.5 f.6 f.7
      (ap (λ l. l.atom) (sym (principal_grown b d p g hp) ∙ same_Some (principal_at d p) (minus (eq (base (suc f.0)) (applied (constant f.1) (f.3 ∷ f.5)) (applied (constant f.1) (f.4 ∷ f.6)))) at.0))

  module _ (e : Equation) (is : IsEquationOf b (term_at b.terms p.atom) (Some e)) where
    pub dec_not : (((n : ℕ) × (the_type e.ty.now ≡ base (suc n))) → ⊥) → Drafted d rows (p ∷ []) (AtOne Dec 0) None
    dec_not other = dec_none (λ n c u v us vs dec k.
        let x : eq (the_type e.ty.now) (term_at b.terms e.left) (term_at b.terms e.right) ≡ eq (base (suc n)) (applied (constant c) (u ∷ us)) (applied (constant c) (v ∷ vs)) = sym is.0 ∙ k in
        let same : the_type e.ty.now ≡ base (suc n) = cc in
        other (n, same))

    pub dec_found : p.positive ≡ false → (n : ℕ) → the_type e.ty.now ≡ base (suc n) → (o : Option (List (List Signed))) → AreComparedBy b d (term_at b.terms e.left) (term_at b.terms e.right) o → Drafted d rows (p ∷ []) (AtOne Dec 0) o
    dec_found sp n plain (Some ds) h =
        let left = applied (constant h.head) (h.left_first ∷ h.left_rest) in
        let right = applied (constant h.head) (h.right_first ∷ h.right_rest) in
        let whole : term_at b.terms p.atom ≡ eq (base (suc n)) left right = is.0 ∙ ap (λ a. eq a (term_at b.terms e.left) (term_at b.terms e.right)) plain ∙ ap₂ (eq (base (suc n))) h.left_is h.right_is in
        drafted_grown b d rows p (AtOne Dec 0) ds g hp h.within
        (subst (IsInstance (content_scope b) rows (principal_at b p ∷ []) (AtOne Dec 0)) (sym h.alternatives)
        (record {
          principals = minus (eq (base (suc n)) left right) ∷ [];
          at_places = (stands b p false (eq (base (suc n)) left right) sp whole, tt);
          fits = dec_rule 0 n h.head h.type h.left_first h.right_first h.left_rest h.right_rest h.decomposed h.has_type;
        }))
    dec_found sp n plain None h = dec_none (λ m c u v us vs dec k.
        let x : eq (the_type e.ty.now) (term_at b.terms e.left) (term_at b.terms e.right) ≡ eq (base (suc m)) (applied (constant c) (u ∷ us)) (applied (constant c) (v ∷ vs)) = sym is.0 ∙ k in
        let left : term_at b.terms e.left ≡ applied (constant c) (u ∷ us) = cc in
        let right : term_at b.terms e.right ≡ applied (constant c) (v ∷ vs) = cc in
        h c u v us vs dec left right)
