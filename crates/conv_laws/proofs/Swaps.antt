-- Replacing one variable and then another gives what replacing in the other order gives, with the second term put into the first.
use Rattle.std.proofs.Common.{◌≡◌, ℕ, zero, suc, List, [], ◌∷◌, ◌++◌, length, Some, slice_get, ◌⊎◌, inl, inr, refl, sym, ap, ap₂, subst, ◌∙◌, append_assoc}
use Rattle.stt_core.specs.SimpleType.{SimpleType, base, arrow}
use Rattle.stt_core.specs.Lambda.{Lambda, bound, constant, lam, app}
use Rattle.stt_core.specs.Typing.{Scope}
use Rattle.stt_core.specs.Canonical.{IsFrom, IsCanonical, IsNeutral}
use Rattle.stt_core.specs.Lift.{lift}
use Rattle.normal_forms.specs.Normal.{Way, later, by_first, ways_at, ways_of, put, replace, apply_by, ways}
use Rattle.normal_forms.proofs.CanonicalLaws.{Outcome, keeps, canonical-replace, outcome-replace}
use Rattle.normal_forms.proofs.CommuteLaws.{lifts, of_inside, replace_inside, of_away, replace_away}

pub under_lam : (c b : SimpleType) (P : SimpleType → Type 0) (Q : Type 0) → ((d : SimpleType) → P d → Q) → IsFrom c b P → Q
under_lam c (base n) P Q f h = absurd h
under_lam c (arrow d e) P Q f h = f e h.1

module _ (scope : Scope) where
  -- a is replaced after b, and before it
  abbrev pub Swaps : SimpleType → SimpleType → Type 0
  Swaps a b =
      (front mid ctx : List SimpleType) (d : SimpleType) (r s t : Lambda) → IsCanonical scope ctx a r → IsCanonical scope (mid ++ a ∷ ctx) b s → IsCanonical scope (front ++ b ∷ (mid ++ a ∷ ctx)) d t → replace (ways a) (length (front ++ mid)) r (replace (ways b) (length front) s t) ≡ replace (ways b) (length front) (replace (ways a) (length mid) r s) (replace (ways a) (suc (length (front ++ mid))) r t)

  -- a swaps with the type of each argument
  abbrev pub Passes : SimpleType → SimpleType → Type 0
  Passes a (base n) = Unit {0}
  Passes a (arrow c d) = Swaps a c × Passes a d

  -- replacing in what a function gives at an argument
  pub way-replace : (a c d : SimpleType) → Swaps a c → (pre ctx : List SimpleType) (r f u : Lambda) → IsCanonical scope ctx a r → IsCanonical scope (pre ++ a ∷ ctx) (arrow c d) f → IsCanonical scope (pre ++ a ∷ ctx) c u → replace (ways a) (length pre) r (apply_by (ways c) f u) ≡ apply_by (ways c) (replace (ways a) (length pre) r f) (replace (ways a) (length pre) r u)
  way-replace a c d swap pre ctx r (bound k) u hr hf hu = absurd hf.0
  way-replace a c d swap pre ctx r (constant k) u hr hf hu = absurd hf.0
  way-replace a c d swap pre ctx r (app s v) u hr hf hu = absurd hf.0
  way-replace a c d swap pre ctx r (lam x g) u hr hf hu =
      swap [] pre ctx d r u g hr hu (subst (λ y. IsCanonical scope (y ∷ (pre ++ a ∷ ctx)) d g) (sym hf.1.0) hf.1.1)

  -- a head that has ways left became a canonical function
  pub taken : (gamma : List SimpleType) (c d : SimpleType) (vs : List Way) (f : Lambda) → Outcome scope gamma (arrow c d) vs f → vs ≡ ways (arrow c d) → IsCanonical scope gamma (arrow c d) f
  taken gamma c d vs f (inl o) e = let e' = o.0 in cc
  taken gamma c d vs f (inr o) e = o.1

  module _ (a b : SimpleType) (mid ctx : List SimpleType) (r s : Lambda) (hr : IsCanonical scope ctx a r) (hs : IsCanonical scope (mid ++ a ∷ ctx) b s) (pab : Passes a b) (pba : Passes b a) where
    abbrev inner : List SimpleType → Lambda → Lambda
    inner front t = replace (ways b) (length front) s t

    abbrev outer : List SimpleType → Lambda → Lambda
    outer front t = replace (ways a) (suc (length (front ++ mid))) r t

    abbrev left : List SimpleType → Lambda → Lambda
    left front t = replace (ways a) (length (front ++ mid)) r t

    abbrev right : List SimpleType → Lambda → Lambda
    right front t = replace (ways b) (length front) (replace (ways a) (length mid) r s) t

    -- The ways in which a head with arguments takes further ones: vs where b was replaced, vs' where a is replaced then, ws where a was
    -- replaced, and ws' where b is replaced then. The head is neither variable, or a, or b.
    abbrev Case : SimpleType → List Way → List Way → List Way → List Way → Type 0
    Case c vs vs' ws ws' =
        ((vs ≡ []) × (vs' ≡ []) × (ws ≡ []) × (ws' ≡ [])) ⊎ (((vs ≡ []) × (vs' ≡ ways c) × (ws ≡ ways c) × Passes b c) ⊎ ((ws ≡ []) × (ws' ≡ ways c) × (vs ≡ ways c) × Passes a c))

    abbrev CaseOf : List SimpleType → SimpleType → Lambda → Type 0
    CaseOf front c t =
        Case c (ways_of (ways b) (length front) t) (ways_of (ways a) (length (front ++ mid)) (inner front t)) (ways_of (ways a) (suc (length (front ++ mid))) t) (ways_of (ways b) (length front) (outer front t))

    -- A VARIABLE

    swap-bound : (front : List SimpleType) (j : ℕ) → left front (put (length front) s j) ≡ right front (put (suc (length (front ++ mid))) r j)
    swap-bound [] zero = refl
    swap-bound [] (suc j) = sym (replace_away (ways b) [] (replace (ways a) (length mid) r s) (put (length mid) r j))
    swap-bound (c ∷ front) zero = refl
    swap-bound (c ∷ front) (suc j) =
        replace_inside (ways a) (lifts a) [] (front ++ mid) r (put (length front) s j)
        ∙ ap (lift zero) (swap-bound front j)
        ∙ sym (replace_inside (ways b) (lifts b) [] front (replace (ways a) (length mid) r s) (put (suc (length (front ++ mid))) r j))

    at_middle : (mid' : List SimpleType) (c : SimpleType) (j : ℕ) → slice_get (mid' ++ a ∷ ctx) j ≡ Some c → (ways_at (length mid') j (ways a) ≡ []) ⊎ ((ways_at (length mid') j (ways a) ≡ ways c) × Passes b c)
    at_middle [] c zero h = let e : a ≡ c = cc in inr (ap ways e, subst (Passes b) e pba)
    at_middle [] c (suc j) h = inl refl
    at_middle (x ∷ mid') c zero h = inl refl
    at_middle (x ∷ mid') c (suc j) h = at_middle mid' c j h

    case_middle : (c : SimpleType) (j : ℕ) → (ways_at (length mid) j (ways a) ≡ []) ⊎ ((ways_at (length mid) j (ways a) ≡ ways c) × Passes b c) → CaseOf [] c (bound (suc j))
    case_middle c j (inl e) = inl (refl, e, e, of_away [] (ways b) (put (length mid) r j))
    case_middle c j (inr e) = inr (inl (refl, e.0, e.0, e.1))

    case-lift : (c : SimpleType) (vs ws : List Way) (vs' ws' vs'' ws'' : List Way) → vs' ≡ vs'' → ws' ≡ ws'' → Case c vs vs'' ws ws'' → Case c vs vs' ws ws'
    case-lift c vs ws vs' ws' vs'' ws'' e q (inl h) = inl (h.0, e ∙ h.1, h.2, q ∙ h.3)
    case-lift c vs ws vs' ws' vs'' ws'' e q (inr (inl h)) = inr (inl (h.0, e ∙ h.1, h.2, h.3))
    case-lift c vs ws vs' ws' vs'' ws'' e q (inr (inr h)) = inr (inr (h.0, q ∙ h.1, h.2, h.3))

    case-bound : (front : List SimpleType) (c : SimpleType) (j : ℕ) → slice_get (front ++ b ∷ (mid ++ a ∷ ctx)) j ≡ Some c → CaseOf front c (bound j)
    case-bound [] c zero h = let e : b ≡ c = cc in inr (inr (refl, ap ways e, ap ways e, subst (Passes a) e pab))
    case-bound [] c (suc j) h = case_middle c j (at_middle mid c j h)
    case-bound (x ∷ front) c zero h = inl (refl, refl, refl, refl)
    case-bound (x ∷ front) c (suc j) h =
        case-lift c _ _ _ _ _ _
        (of_inside [] (front ++ mid) (ways a) (put (length front) s j))
        (of_inside [] front (ways b) (put (suc (length (front ++ mid))) r j))
        (case-bound front c j h)

    -- AN APPLICATION

    case-app : (front : List SimpleType) (c d : SimpleType) (vs ws : List Way) (f u f' u' : Lambda) → Case (arrow c d) vs (ways_of (ways a) (length (front ++ mid)) f) ws (ways_of (ways b) (length front) f') → Case d (later vs) (ways_of (ways a) (length (front ++ mid)) (by_first vs f u)) (later ws) (ways_of (ways b) (length front) (by_first ws f' u'))
    case-app front c d vs ws f u f' u' (inl h) =
        inl (ap later h.0, ap (λ x. ways_of (ways a) (length (front ++ mid)) (by_first x f u)) h.0 ∙ ap later h.1, ap later h.2, ap (λ x. ways_of (ways b) (length front) (by_first x f' u')) h.2 ∙ ap later h.3)
    case-app front c d vs ws f u f' u' (inr (inl h)) =
        inr (inl (ap later h.0, ap (λ x. ways_of (ways a) (length (front ++ mid)) (by_first x f u)) h.0 ∙ ap later h.1, ap later h.2, h.3.1))
    case-app front c d vs ws f u f' u' (inr (inr h)) =
        inr (inr (ap later h.0, ap (λ x. ways_of (ways b) (length front) (by_first x f' u')) h.0 ∙ ap later h.1, ap later h.2, h.3.1))

    case-neutral : (front : List SimpleType) (c : SimpleType) (t : Lambda) → IsNeutral scope (front ++ b ∷ (mid ++ a ∷ ctx)) c t → CaseOf front c t
    case-neutral front c (bound j) h = case-bound front c j h
    case-neutral front c (constant k) h = inl (refl, refl, refl, refl)
    case-neutral front c (lam x g) h = absurd h
    case-neutral front c (app t u) h = case-app front h.0 c _ _ _ _ _ _ (case-neutral front (arrow h.0 c) t h.1)

    length-middle : (front : List SimpleType) → length (front ++ b ∷ mid) ≡ suc (length (front ++ mid))
    length-middle [] = refl
    length-middle (x ∷ front) = ap suc (length-middle front)

    outer-outcome : (front : List SimpleType) (c : SimpleType) (t : Lambda) → IsNeutral scope (front ++ b ∷ (mid ++ a ∷ ctx)) c t → Outcome scope (front ++ b ∷ (mid ++ ctx)) c (ways_of (ways a) (suc (length (front ++ mid))) t) (outer front t)
    outer-outcome front c t h =
        subst (λ n. Outcome scope (front ++ b ∷ (mid ++ ctx)) c (ways_of (ways a) n t) (replace (ways a) n r t)) (length-middle front)
        (subst (λ gamma. Outcome scope gamma c (ways_of (ways a) (length (front ++ b ∷ mid)) t) (replace (ways a) (length (front ++ b ∷ mid)) r t)) (append_assoc front (b ∷ mid) ctx)
        (outcome-replace scope ctx a r (ways a) hr (keeps scope a) (front ++ b ∷ mid) c t (subst (λ gamma. IsNeutral scope gamma c t) (sym (append_assoc front (b ∷ mid) (a ∷ ctx))) h)))

    outer-canonical : (front : List SimpleType) (c : SimpleType) (t : Lambda) → IsCanonical scope (front ++ b ∷ (mid ++ a ∷ ctx)) c t → IsCanonical scope (front ++ b ∷ (mid ++ ctx)) c (outer front t)
    outer-canonical front c t h =
        subst (λ n. IsCanonical scope (front ++ b ∷ (mid ++ ctx)) c (replace (ways a) n r t)) (length-middle front)
        (subst (λ gamma. IsCanonical scope gamma c (replace (ways a) (length (front ++ b ∷ mid)) r t)) (append_assoc front (b ∷ mid) ctx)
        (canonical-replace scope ctx a r (ways a) hr (keeps scope a) (front ++ b ∷ mid) c t (subst (λ gamma. IsCanonical scope gamma c t) (sym (append_assoc front (b ∷ mid) (a ∷ ctx))) h)))

    swap-app : (front : List SimpleType) (c d : SimpleType) (t u : Lambda) → IsNeutral scope (front ++ b ∷ (mid ++ a ∷ ctx)) (arrow c d) t → IsCanonical scope (front ++ b ∷ (mid ++ a ∷ ctx)) c u → CaseOf front (arrow c d) t → left front (inner front t) ≡ right front (outer front t) → left front (inner front u) ≡ right front (outer front u) → left front (inner front (app t u)) ≡ right front (outer front (app t u))
    swap-app front c d t u ht hu (inl h) et eu =
        ap (λ x. left front (by_first x (inner front t) (inner front u))) h.0
        ∙ ap (λ x. by_first x (left front (inner front t)) (left front (inner front u))) h.1
        ∙ ap₂ app et eu
        ∙ sym (ap (λ x. right front (by_first x (outer front t) (outer front u))) h.2 ∙ ap (λ x. by_first x (right front (outer front t)) (right front (outer front u))) h.3)
    swap-app front c d t u ht hu (inr (inl h)) et eu =
        ap (λ x. left front (by_first x (inner front t) (inner front u))) h.0
        ∙ ap (λ x. by_first x (left front (inner front t)) (left front (inner front u))) h.1
        ∙ ap₂ (apply_by (ways c)) et eu
        ∙ sym
        (ap (λ x. right front (by_first x (outer front t) (outer front u))) h.2
        ∙ way-replace b c d h.3.0 front (mid ++ ctx) (replace (ways a) (length mid) r s) (outer front t) (outer front u) (canonical-replace scope ctx a r (ways a) hr (keeps scope a) mid b s hs) (taken _ c d _ _ (outer-outcome front (arrow c d) t ht) h.2) (outer-canonical front c u hu))
    swap-app front c d t u ht hu (inr (inr h)) et eu =
        ap (λ x. left front (by_first x (inner front t) (inner front u))) h.2
        ∙ way-replace a c d h.3.0 (front ++ mid) ctx r (inner front t) (inner front u) hr
        (subst (λ gamma. IsCanonical scope gamma (arrow c d) (inner front t)) (sym (append_assoc front mid (a ∷ ctx))) (taken _ c d _ _ (outcome-replace scope (mid ++ a ∷ ctx) b s (ways b) hs (keeps scope b) front (arrow c d) t ht) h.2))
        (subst (λ gamma. IsCanonical scope gamma c (inner front u)) (sym (append_assoc front mid (a ∷ ctx))) (canonical-replace scope (mid ++ a ∷ ctx) b s (ways b) hs (keeps scope b) front c u hu))
        ∙ ap₂ (apply_by (ways c)) et eu
        ∙ sym (ap (λ x. right front (by_first x (outer front t) (outer front u))) h.0 ∙ ap (λ x. by_first x (right front (outer front t)) (right front (outer front u))) h.1)

    mutual
      pub swap-canonical : (front : List SimpleType) (d : SimpleType) (t : Lambda) → IsCanonical scope (front ++ b ∷ (mid ++ a ∷ ctx)) d t → left front (inner front t) ≡ right front (outer front t)
      swap-canonical front d (bound j) h = swap-bound front j
      swap-canonical front d (constant k) h = refl
      swap-canonical front d (lam c g) h = ap (lam c) (under_lam c d _ _ (λ e k. swap-canonical (c ∷ front) e g k) h.1)
      swap-canonical front d (app t u) h =
          swap-app front h.1.0 d t u h.1.1 h.1.2 (case-neutral front (arrow h.1.0 d) t h.1.1) (swap-neutral front (arrow h.1.0 d) t h.1.1) (swap-canonical front h.1.0 u h.1.2)

      swap-neutral : (front : List SimpleType) (d : SimpleType) (t : Lambda) → IsNeutral scope (front ++ b ∷ (mid ++ a ∷ ctx)) d t → left front (inner front t) ≡ right front (outer front t)
      swap-neutral front d (bound j) h = swap-bound front j
      swap-neutral front d (constant k) h = refl
      swap-neutral front d (lam c g) h = absurd h
      swap-neutral front d (app t u) h =
          swap-app front h.0 d t u h.1 h.2 (case-neutral front (arrow h.0 d) t h.1) (swap-neutral front (arrow h.0 d) t h.1) (swap-canonical front h.0 u h.2)

  swaps_from : (a b : SimpleType) → Passes a b → Passes b a → Swaps a b
  swaps_from a b p q = λ front mid ctx d r s t hr hs ht. swap-canonical a b mid ctx r s hr hs p q front d t ht

  pub both : (a b : SimpleType) → Passes a b × Passes b a
  both (base m) (base n) = (tt, tt)
  both (base m) (arrow c d) =
      let p = both (base m) c in
      ((swaps_from (base m) c p.0 p.1, (both (base m) d).0), tt)
  both (arrow c d) (base n) =
      let p = both c (base n) in
      (tt, (swaps_from (base n) c p.1 p.0, (both d (base n)).1))
  both (arrow c d) (arrow e f) =
      let p = both (arrow c d) e in
      let q = both c (arrow e f) in
      ((swaps_from (arrow c d) e p.0 p.1, (both (arrow c d) f).0), (swaps_from (arrow e f) c q.1 q.0, (both d (arrow e f)).1))

  pub swaps : (a b : SimpleType) → Swaps a b
  swaps a b = let p = both a b in swaps_from a b p.0 p.1
