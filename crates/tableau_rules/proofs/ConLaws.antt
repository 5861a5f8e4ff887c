-- Drafts of confrontation.
use Rattle.std.proofs.Common.{◌≡◌, ◌<◌, ℕ, suc, true, false, List, [], ◌∷◌, Some, None, length, refl, sym, ap, ap₂, subst, subst₂, ◌∙◌}
use Rattle.stt_core.specs.SimpleType.{SimpleType, base, formula}
use Rattle.stt_core.specs.Lambda.{eq}
use Rattle.stt_core.specs.Canonical.{IsCanonical}
use Rattle.stt_core.specs.View.{the_type}
use Rattle.tableau_calculus.specs.Literals.{minus, opposite, as_literal}
use Rattle.tableau_calculus.specs.Witnesses.{Row}
use Rattle.tableau_calculus.specs.Rules.{IsInstance}
use Rattle.tableau_calculus.specs.declared.rule_use.TwoPlaces.TheVariants.{Con}
use Rattle.tableau_calculus.specs.declared.rule_use.RuleUse.TheVariants.{AtTwo}
use Rattle.tableau_calculus.proofs.InstanceLaws.{con_is}
use Rattle.tableau_calculus.proofs.EquationLaws.{eq_canonical}
use Rattle.tableau_calculus.proofs.ListLaws.{untrue}
use Rattle.term_bank.specs.Content.{Content, content_scope, Grows}
use Rattle.term_bank.specs.Terms.{term_at}
use Rattle.term_bank.proofs.GrowLaws.{grown_scope, grown_at, grown_term, grows_on, has_at, has_within}
use Rattle.tableau_rules.specs.Internal.Drafted.{principal_at, signed_at, alternatives_at, IsPrincipal, Drafted, IsDifference, DifferFromBoth}
use Rattle.tableau_rules.specs.Internal.Parts.{IsEquationOf}
use Rattle.tableau_rules.specs.Internal.Typed.{AreSides}
use Rattle.tableau_rules.specs.declared.draft.Principal.{Principal}
use Rattle.tableau_rules.specs.declared.draft.Signed.{Signed}
use Rattle.tableau_rules.specs.declared.part.Equation.{Equation}
use Rattle.tableau_rules.proofs.DraftLaws.{stands}
use Rattle.tableau_rules.proofs.GrownLaws.{principal_grown}
use Rattle.tableau_rules.proofs.FoundLaws.{con_none}

pub difference_grown : (b c d : Content) (a : SimpleType) (s t : ℕ) (x : Signed) → Grows c d → IsDifference b c a s t x → IsDifference b d a s t x
difference_grown b c d a s t x g h = record { has = grown_term c d x.formula (eq a (term_at b.terms s) (term_at b.terms t)) g h.has; denied = h.denied }

pub difference_of : (b c d : Content) (a : SimpleType) (s t : ℕ) (x : Signed) → Grows b c → s < length b.terms → t < length b.terms → IsDifference c d a s t x → IsDifference b d a s t x
difference_of b c d a s t x g hs ht h =
    record { has = h.has ∙ ap₂ (λ u v. Some (eq a u v)) (grown_at b c s g hs) (grown_at b c t g ht); denied = h.denied }

difference_is : (b d : Content) (a : SimpleType) (s t : ℕ) (x : Signed) → IsDifference b d a s t x → signed_at d x ≡ minus (eq a (term_at b.terms s) (term_at b.terms t))
difference_is b d a s t x h =
    ap (λ y. signed_at d (record { formula = x.formula; positive = y })) h.denied
    ∙ ap (λ u. opposite (as_literal u)) (has_at d x.formula (eq a (term_at b.terms s) (term_at b.terms t)) h.has)

module _ (b : Content) (p q : Principal) (e o : Equation) (hp : IsPrincipal b p) (hq : IsPrincipal b q) (left : IsEquationOf b (term_at b.terms p.atom) (Some e)) (right : IsEquationOf b (term_at b.terms q.atom) (Some o)) where
  pub con_different : (rows : List Row) → ((the_type e.ty.now ≡ the_type o.ty.now) → (n : ℕ) → the_type e.ty.now ≡ base (suc n) → ⊥) → Drafted b rows (p ∷ q ∷ []) (AtTwo Con 0 1) None
  con_different rows differ = con_none (content_scope b) rows (principal_at b p) (principal_at b q) (λ n s t u v f g.
      let x : eq (the_type e.ty.now) (term_at b.terms e.left) (term_at b.terms e.right) ≡ eq (base (suc n)) s t = sym left.0 ∙ ap (λ l. l.atom) f in
      let y : eq (the_type o.ty.now) (term_at b.terms o.left) (term_at b.terms o.right) ≡ eq (base (suc n)) u v = sym right.0 ∙ ap (λ l. l.atom) g in
      let k : the_type e.ty.now ≡ base (suc n) = cc in
      let m : the_type o.ty.now ≡ base (suc n) = cc in
      differ (k ∙ sym m) n k)

  module _ (same : the_type e.ty.now ≡ the_type o.ty.now) where
    first_sides : AreSides b (the_type e.ty.now) e.left e.right
    first_sides =
        let k = eq_canonical (content_scope b) (the_type e.ty.now) (term_at b.terms e.left) (term_at b.terms e.right) (subst (IsCanonical (content_scope b) [] formula) left.0 hp.typed.formula) in
        record { left_within = left.1; right_within = left.2; declared = k.declared; left = k.left; right = k.right }

    second_sides : AreSides b (the_type e.ty.now) o.left o.right
    second_sides =
        let k = eq_canonical (content_scope b) (the_type o.ty.now) (term_at b.terms o.left) (term_at b.terms o.right) (subst (IsCanonical (content_scope b) [] formula) right.0 hq.typed.formula) in
        subst (λ x. AreSides b x o.left o.right) (sym same) (record { left_within = right.1; right_within = right.2; declared = k.declared; left = k.left; right = k.right })

    joined : (s t u v : ℕ) → AreSides b (the_type e.ty.now) s t → AreSides b (the_type e.ty.now) u v → AreSides b (the_type e.ty.now) s u
    joined s t u v h k = record { left_within = h.left_within; right_within = k.left_within; declared = h.declared; left = h.left; right = k.left }

    turned : (s t : ℕ) → AreSides b (the_type e.ty.now) s t → AreSides b (the_type e.ty.now) t s
    turned s t h = record { left_within = h.right_within; right_within = h.left_within; declared = h.declared; left = h.right; right = h.left }

    pub at_ll : AreSides b (the_type e.ty.now) e.left o.left
    at_ll = joined e.left e.right o.left o.right first_sides second_sides

    pub at_rl : AreSides b (the_type e.ty.now) e.right o.left
    at_rl = joined e.right e.left o.left o.right (turned e.left e.right first_sides) second_sides

    pub at_lr : AreSides b (the_type e.ty.now) e.left o.right
    at_lr = joined e.left e.right o.right o.left first_sides (turned o.left o.right second_sides)

    pub at_rr : AreSides b (the_type e.ty.now) e.right o.right
    at_rr = joined e.right e.left o.right o.left (turned e.left e.right first_sides) (turned o.left o.right second_sides)

    pub con_found : (c d : Content) (rows : List Row) → Grows b c → Grows c d → p.positive ≡ true → q.positive ≡ false → (n : ℕ) → the_type e.ty.now ≡ base (suc n) → (f g h k : Signed) → DifferFromBoth b c (the_type e.ty.now) e.left e.right o.left f g → DifferFromBoth c d (the_type e.ty.now) e.left e.right o.right h k → (ds : List (List Signed)) → ds ≡ (f ∷ g ∷ []) ∷ (h ∷ k ∷ []) ∷ [] → Drafted d rows (p ∷ q ∷ []) (AtTwo Con 0 1) (Some ds)
    con_found c d rows x y sp sq n is f g h k first second ds w =
        let f' = difference_grown b c d (the_type e.ty.now) e.left o.left f y first.0 in
        let g' = difference_grown b c d (the_type e.ty.now) e.right o.left g y first.1 in
        let h' = difference_of b c d (the_type e.ty.now) e.left o.right h x left.1 right.2 second.0 in
        let k' = difference_of b c d (the_type e.ty.now) e.right o.right k x left.2 right.2 second.1 in
        let all = con_is (content_scope b) rows (principal_at b p ∷ principal_at b q ∷ []) 0 1 n (the_type e.ty.now) (the_type o.ty.now) is same (term_at b.terms e.left) (term_at b.terms e.right) (term_at b.terms o.left) (term_at b.terms o.right)
        (signed_at d f, signed_at d g) (signed_at d h, signed_at d k) (alternatives_at d ((f ∷ g ∷ []) ∷ (h ∷ k ∷ []) ∷ []))
        (stands b p true (eq (the_type e.ty.now) (term_at b.terms e.left) (term_at b.terms e.right)) sp left.0) (stands b q false (eq (the_type o.ty.now) (term_at b.terms o.left) (term_at b.terms o.right)) sq right.0)
        (difference_is b d (the_type e.ty.now) e.left o.left f f', difference_is b d (the_type e.ty.now) e.right o.left g g')
        (difference_is b d (the_type e.ty.now) e.left o.right h h', difference_is b d (the_type e.ty.now) e.right o.right k k') refl in
        let z = grows_on b c d x y in
        subst (λ l. Drafted d rows (p ∷ q ∷ []) (AtTwo Con 0 1) (Some l)) (sym w) (
          ((within f e.left o.left f', (within g e.right o.left g', tt)), ((within h e.left o.right h', (within k e.right o.right k', tt)), tt)),
          subst (λ s. IsInstance s rows (principal_at d p ∷ principal_at d q ∷ []) (AtTwo Con 0 1) (alternatives_at d ((f ∷ g ∷ []) ∷ (h ∷ k ∷ []) ∷ []))) (sym (grown_scope b d z))
              (subst₂ (λ l m. IsInstance (content_scope b) rows (l ∷ m ∷ []) (AtTwo Con 0 1) (alternatives_at d ((f ∷ g ∷ []) ∷ (h ∷ k ∷ []) ∷ []))) (sym (principal_grown b d p z hp)) (sym (principal_grown b d q z hq)) all),
        )
      where
        within : (t : Signed) (i j : ℕ) → IsDifference b d (the_type e.ty.now) i j t → t.formula < length d.terms
        within t i j m = has_within d t.formula (eq (the_type e.ty.now) (term_at b.terms i) (term_at b.terms j)) m.has

pub con_no_second : (b : Content) (rows : List Row) (p q : Principal) → IsEquationOf b (term_at b.terms q.atom) None → Drafted b rows (p ∷ q ∷ []) (AtTwo Con 0 1) None
con_no_second b rows p q none = con_none (content_scope b) rows (principal_at b p) (principal_at b q) (λ n s t u v f g. none (base (suc n)) u v (ap (λ l. l.atom) g))

pub con_no_first : (b : Content) (rows : List Row) (p q : Principal) → IsEquationOf b (term_at b.terms p.atom) None → Drafted b rows (p ∷ q ∷ []) (AtTwo Con 0 1) None
con_no_first b rows p q none = con_none (content_scope b) rows (principal_at b p) (principal_at b q) (λ n s t u v f g. none (base (suc n)) s t (ap (λ l. l.atom) f))

-- the first principal is denied, or the second is claimed
pub con_denied : (b : Content) (rows : List Row) (p q : Principal) → p.positive ≡ false → Drafted b rows (p ∷ q ∷ []) (AtTwo Con 0 1) None
con_denied b rows p q e = con_none (content_scope b) rows (principal_at b p) (principal_at b q) (λ n s t u v f g. untrue (ap (λ l. l.positive) f) e)

pub con_claimed : (b : Content) (rows : List Row) (p q : Principal) → q.positive ≡ true → Drafted b rows (p ∷ q ∷ []) (AtTwo Con 0 1) None
con_claimed b rows p q e = con_none (content_scope b) rows (principal_at b p) (principal_at b q) (λ n s t u v f g. untrue e (ap (λ l. l.positive) g))

pub sides_same : (b : Content) (x a : SimpleType) (i s t : ℕ) → x ≡ a → i ≡ s → AreSides b a s t → AreSides b x i t
sides_same b x a i s t e f h = subst₂ (λ y j. AreSides b y j t) (sym e) (sym f) h

pub differ_same : (b c : Content) (x a : SimpleType) (i l j r t : ℕ) (f g : Signed) → x ≡ a → i ≡ l → j ≡ r → DifferFromBoth b c x i j t f g → DifferFromBoth b c a l r t f g
differ_same b c x a i l j r t f g e m n h =
    (subst₂ (λ y k. IsDifference b c y k t f) e m h.0, subst₂ (λ y k. IsDifference b c y k t g) e n h.1)
