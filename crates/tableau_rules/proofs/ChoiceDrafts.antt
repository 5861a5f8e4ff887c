-- Drafts of choice and of description.
use Rattle.std.proofs.Common.{◌≡◌, ◌<◌, ℕ, length, List, [], ◌∷◌, Some, sym, ap, ap₂, subst, ◌∙◌}
use Rattle.stt_core.specs.SimpleType.{SimpleType}
use Rattle.stt_core.specs.Lambda.{Constant, constant, app}
use Rattle.normal_forms.specs.Normal.{eta, apply}
use Rattle.tableau_calculus.specs.Literals.{as_literal, opposite}
use Rattle.tableau_calculus.specs.Witnesses.{Row}
use Rattle.tableau_calculus.specs.Rules.{IsInstance, chosen, nowhere, at_most_once, described}
use Rattle.tableau_calculus.specs.declared.rule_use.OfPredicate.TheVariants.{Cho, Des}
use Rattle.tableau_calculus.specs.declared.rule_use.RuleUse.TheVariants.{WithPredicate}
use Rattle.tableau_calculus.proofs.InstanceLaws.{cho_is, des_is}
use Rattle.term_bank.specs.Content.{Content, content_scope, HasTerm, Grows}
use Rattle.term_bank.specs.Terms.{term_at}
use Rattle.term_bank.proofs.GrowLaws.{grown_scope, grown_at, has_at, has_within}
use Rattle.tableau_rules.specs.Internal.Typed.{IsPredicate}
use Rattle.tableau_rules.specs.Internal.Drafted.{alternatives_at, Drafted}
use Rattle.tableau_rules.specs.declared.draft.Signed.{Signed}
use Rattle.tableau_rules.proofs.DraftLaws.{yes, nay}

-- what an operator gives for a predicate, over an earlier bank
pub picked_back : (C : SimpleType → Constant) (b c e : Content) (a x : SimpleType) (f v : ℕ) → Grows b c → f < length b.terms → x ≡ a → HasTerm e v (apply (term_at c.terms f) (eta a (app (constant (C x)) (term_at c.terms f)))) → HasTerm e v (apply (term_at b.terms f) (eta a (app (constant (C a)) (term_at b.terms f))))
picked_back C b c e a x f v g w same m = m ∙ ap₂ (λ t y. Some (apply t (eta a (app (constant (C y)) t)))) (grown_at b c f g w) same

module _ (b e : Content) (rows : List Row) (a : SimpleType) (f : ℕ) (g : Grows b e) (p : IsPredicate b a f) (n : ℕ) (none : HasTerm e n (nowhere a (term_at b.terms f))) (v : ℕ) where
  first_is : as_literal (term_at e.terms n) ≡ as_literal (nowhere a (term_at b.terms f))
  first_is = ap as_literal (has_at e n (nowhere a (term_at b.terms f)) none)

  pub cho_found : HasTerm e v (apply (term_at b.terms f) (chosen a (term_at b.terms f))) → (ds : List (List Signed)) → ds ≡ (yes n ∷ []) ∷ (yes v ∷ []) ∷ [] → Drafted e rows [] (WithPredicate Cho (term_at b.terms f)) (Some ds)
  cho_found holds ds w =
      let second = ap as_literal (has_at e v (apply (term_at b.terms f) (chosen a (term_at b.terms f))) holds) in
      subst (λ l. Drafted e rows [] (WithPredicate Cho (term_at b.terms f)) (Some l)) (sym w) (
        ((has_within e n (nowhere a (term_at b.terms f)) none, tt), ((has_within e v (apply (term_at b.terms f) (chosen a (term_at b.terms f))) holds, tt), tt)),
        subst (λ s. IsInstance s rows [] (WithPredicate Cho (term_at b.terms f)) (alternatives_at e ((yes n ∷ []) ∷ (yes v ∷ []) ∷ []))) (sym (grown_scope b e g))
            (cho_is (content_scope b) rows [] a (term_at b.terms f) (alternatives_at e ((yes n ∷ []) ∷ (yes v ∷ []) ∷ [])) p.predicate_in (ap₂ (λ x y. (x ∷ []) ∷ (y ∷ []) ∷ []) first_is second)),
      )

  pub des_found : (m : ℕ) → HasTerm e m (at_most_once a (term_at b.terms f)) → HasTerm e v (apply (term_at b.terms f) (described a (term_at b.terms f))) → (ds : List (List Signed)) → ds ≡ (yes n ∷ []) ∷ (nay m ∷ []) ∷ (yes v ∷ []) ∷ [] → Drafted e rows [] (WithPredicate Des (term_at b.terms f)) (Some ds)
  des_found m once holds ds w =
      let second = ap (λ t. opposite (as_literal t)) (has_at e m (at_most_once a (term_at b.terms f)) once) in
      let third = ap as_literal (has_at e v (apply (term_at b.terms f) (described a (term_at b.terms f))) holds) in
      subst (λ l. Drafted e rows [] (WithPredicate Des (term_at b.terms f)) (Some l)) (sym w) (
        ((has_within e n (nowhere a (term_at b.terms f)) none, tt), ((has_within e m (at_most_once a (term_at b.terms f)) once, tt), ((has_within e v (apply (term_at b.terms f) (described a (term_at b.terms f))) holds, tt), tt))),
        subst (λ s. IsInstance s rows [] (WithPredicate Des (term_at b.terms f)) (alternatives_at e ((yes n ∷ []) ∷ (nay m ∷ []) ∷ (yes v ∷ []) ∷ []))) (sym (grown_scope b e g))
            (des_is (content_scope b) rows [] a (term_at b.terms f) (alternatives_at e ((yes n ∷ []) ∷ (nay m ∷ []) ∷ (yes v ∷ []) ∷ [])) p.predicate_in
            (ap₂ (λ x y. (x ∷ []) ∷ (y ∷ []) ∷ (as_literal (term_at e.terms v) ∷ []) ∷ []) first_is second
            ∙ ap (λ z. (as_literal (nowhere a (term_at b.terms f)) ∷ []) ∷ (opposite (as_literal (at_most_once a (term_at b.terms f))) ∷ []) ∷ (z ∷ []) ∷ []) third)),
      )
