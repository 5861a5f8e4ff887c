-- Eta-long forms of variables rename, and a canonical term is its own normal form.
use Rattle.std.proofs.Common.{◌≡◌, ℕ, zero, suc, List, [], ◌∷◌, ◌++◌, length, Some, slice_get, ◌⊎◌, inl, inr, refl, sym, ap, ap₂, subst, ◌∙◌}
use Rattle.stt_core.specs.SimpleType.{SimpleType, base, arrow}
use Rattle.stt_core.specs.Lambda.{Lambda, bound, constant, lam, app, applied}
use Rattle.stt_core.specs.Typing.{Scope}
use Rattle.stt_core.specs.Canonical.{IsBase, IsFrom, IsCanonical, IsNeutral}
use Rattle.stt_core.specs.Lift.{raised, lift}
use Rattle.normal_forms.specs.Normal.{Way, later, by_first, ways_at, ways_of, put, replace, apply, apply_by, ways, eta, eta_if, apply_each, normal_form}
use Rattle.normal_forms.specs.Ready.{ArgumentsFit}
use Rattle.normal_forms.specs.Internal.Applying.{result_after}
use Rattle.normal_forms.proofs.CommuteLaws.{lift-lift, Lifts, lifts, of_inside, replace_inside, of_away, replace_away, replace-eta}

pub lift-eta : (mid : List SimpleType) (a : SimpleType) (t : Lambda) → lift (length mid) (eta a t) ≡ eta a (lift (length mid) t)
lift-eta mid (base n) t = refl
lift-eta mid (arrow a b) t =
    ap (lam a)
    (lift-eta (a ∷ mid) b (app (lift zero t) (eta a (bound zero)))
    ∙ ap (eta b) (ap₂ app (lift-lift [] mid t) (lift-eta (a ∷ mid) a (bound zero))))

eta_base : (a : SimpleType) (t : Lambda) → IsBase a → eta a t ≡ t
eta_base (base n) t h = refl
eta_base (arrow a b) t h = absurd h

under_lam : (c b : SimpleType) (P : SimpleType → Type 0) (Q : Type 0) → ((d : SimpleType) → P d → Q) → IsFrom c b P → Q
under_lam c (base n) P Q f h = absurd h
under_lam c (arrow d e) P Q f h = f e h.1

module _ (scope : Scope) where
  -- replacing in the eta-long form of the variable gives what replaces it
  abbrev Restores : SimpleType → Type 0
  Restores a = (ctx : List SimpleType) (u : Lambda) → IsCanonical scope ctx a u → replace (ways a) zero u (eta a (bound zero)) ≡ u

  abbrev RestoreArguments : SimpleType → Type 0
  RestoreArguments (base n) = Unit {0}
  RestoreArguments (arrow a b) = Restores a × RestoreArguments b

  -- an eta-long head applied to one more argument
  apply-eta : (a b : SimpleType) (ctx : List SimpleType) (s u : Lambda) → Restores a → IsCanonical scope ctx a u → replace (ways a) zero u (eta b (app (lift zero s) (eta a (bound zero)))) ≡ eta b (app s u)
  apply-eta a b ctx s u r h =
      replace-eta (ways a) (lifts a) [] u b (app (lift zero s) (eta a (bound zero))) (ap later (of_away [] (ways a) s))
      ∙ ap (eta b)
      (ap (λ vs. by_first vs (replace (ways a) zero u (lift zero s)) (replace (ways a) zero u (eta a (bound zero)))) (of_away [] (ways a) s)
      ∙ ap₂ app (replace_away (ways a) [] u s) (r ctx u h))

  module _ (a : SimpleType) (ctx : List SimpleType) (good : RestoreArguments a) where
    -- what a head with arguments becomes where the variable is renamed: itself, or where that is its head, its eta-long form
    abbrev Renamed : SimpleType → List Way → Lambda → Lambda → Type 0
    Renamed b ws new t = ((ws ≡ []) × (new ≡ t)) ⊎ ((ws ≡ ways b) × RestoreArguments b × (new ≡ eta b t))

    renamed-lift : (b : SimpleType) (ws : List Way) (new t : Lambda) → Renamed b ws new t → Renamed b ws (lift zero new) (lift zero t)
    renamed-lift b ws new t (inl h) = inl (h.0, ap (lift zero) h.1)
    renamed-lift b ws new t (inr h) = inr (h.0, h.1, ap (lift zero) h.2 ∙ lift-eta [] b t)

    renamed_bound : (front : List SimpleType) (b : SimpleType) (j : ℕ) → slice_get (front ++ a ∷ ctx) j ≡ Some b → Renamed b (ways_at (length front) (raised (suc (length front)) j) (ways a)) (put (length front) (eta a (bound zero)) (raised (suc (length front)) j)) (bound j)
    renamed_bound [] b zero h =
        let e : a ≡ b = cc in
        inr (ap ways e, subst RestoreArguments e good, ap (λ x. eta x (bound zero)) e)
    renamed_bound [] b (suc j) h = inl (refl, refl)
    renamed_bound (c ∷ front) b zero h = inl (refl, refl)
    renamed_bound (c ∷ front) b (suc j) h = renamed-lift b _ _ (bound j) (renamed_bound front b j h)

    renamed_app : (gamma : List SimpleType) (c b : SimpleType) (ws : List Way) (s' u' s u : Lambda) → Renamed (arrow c b) ws s' s → IsCanonical scope gamma c u → u' ≡ u → Renamed b (later ws) (by_first ws s' u') (app s u)
    renamed_app gamma c b ws s' u' s u (inl h) hu e = inl (ap later h.0, ap (λ vs. by_first vs s' u') h.0 ∙ ap₂ app h.1 e)
    renamed_app gamma c b ws s' u' s u (inr h) hu e =
        inr (ap later h.0, h.1.1, ap (λ vs. by_first vs s' u') h.0 ∙ ap₂ (apply_by (ways c)) h.2 e ∙ apply-eta c b gamma s u h.1.0 hu)

    at_base : (b : SimpleType) (ws : List Way) (new t : Lambda) → IsBase b → Renamed b ws new t → new ≡ t
    at_base b ws new t h (inl r) = r.1
    at_base b ws new t h (inr r) = r.2 ∙ eta_base b t h

    mutual
      rename : (front : List SimpleType) (b : SimpleType) (t : Lambda) → IsCanonical scope (front ++ a ∷ ctx) b t → replace (ways a) (length front) (eta a (bound zero)) (lift (suc (length front)) t) ≡ t
      rename front b (bound j) h = at_base b _ _ (bound j) h.0 (renamed_bound front b j h.1)
      rename front b (constant c) h = refl
      rename front b (lam c s) h = ap (lam c) (under_lam c b _ _ (λ d k. rename (c ∷ front) d s k) h.1)
      rename front b (app s u) h = at_base b _ _ (app s u) h.0 (renamed_app (front ++ a ∷ ctx) h.1.0 b _ _ _ s u (rename_neutral front (arrow h.1.0 b) s h.1.1) h.1.2 (rename front h.1.0 u h.1.2))

      rename_neutral : (front : List SimpleType) (b : SimpleType) (t : Lambda) → IsNeutral scope (front ++ a ∷ ctx) b t → Renamed b (ways_of (ways a) (length front) (lift (suc (length front)) t)) (replace (ways a) (length front) (eta a (bound zero)) (lift (suc (length front)) t)) t
      rename_neutral front b (bound j) h = renamed_bound front b j h
      rename_neutral front b (constant c) h = inl (refl, refl)
      rename_neutral front b (lam c s) h = absurd h
      rename_neutral front b (app s u) h = renamed_app (front ++ a ∷ ctx) h.0 b _ _ _ s u (rename_neutral front (arrow h.0 b) s h.1) h.2 (rename front h.0 u h.2)

  -- what replaces a head that is the variable is eta-long already
  abbrev Settles : SimpleType → Type 0
  Settles a = (ws : List Way) (pre : List SimpleType) (r t : Lambda) (gamma : List SimpleType) → Lifts ws → ways_of ws (length pre) t ≡ ways a → IsCanonical scope gamma a (replace ws (length pre) r t) → replace ws (length pre) r (eta a t) ≡ replace ws (length pre) r t

  settle_at : (a b : SimpleType) (gamma : List SimpleType) (f new body : Lambda) → RestoreArguments a → IsCanonical scope gamma (arrow a b) f → new ≡ apply_by (ways a) (lift zero f) (eta a (bound zero)) → (IsCanonical scope (a ∷ gamma) b new → body ≡ new) → lam a body ≡ f
  settle_at a b gamma (bound k) new body r h e go = absurd h.0
  settle_at a b gamma (constant c) new body r h e go = absurd h.0
  settle_at a b gamma (app s u) new body r h e go = absurd h.0
  settle_at a b gamma (lam c g) new body r h e go =
      let h' = subst (λ x. IsCanonical scope (x ∷ gamma) b g) (sym h.1.0) h.1.1 in
      let n : new ≡ g = e ∙ rename a gamma r [] b g h' in
      ap₂ lam h.1.0 (go (subst (λ x. IsCanonical scope (a ∷ gamma) b x) (sym n) h') ∙ n)

  mutual
    settles : (a : SimpleType) → Settles a
    settles (base n) ws pre r t gamma l e h = refl
    settles (arrow a b) ws pre r t gamma l e h =
        let e' = of_inside [] pre ws t ∙ e in
        settle_at a b gamma (replace ws (length pre) r t) (replace ws (suc (length pre)) r (app (lift zero t) (eta a (bound zero)))) (replace ws (suc (length pre)) r (eta b (app (lift zero t) (eta a (bound zero))))) (restores a) h
        (ap (λ vs. by_first vs (replace ws (suc (length pre)) r (lift zero t)) (replace ws (suc (length pre)) r (eta a (bound zero)))) e'
        ∙ ap₂ (apply_by (ways a)) (replace_inside ws l [] pre r t) (replace-eta ws l (a ∷ pre) r a (bound zero) refl))
        (λ k. settles b ws (a ∷ pre) r (app (lift zero t) (eta a (bound zero))) (a ∷ gamma) l (ap later e') k)

    restores : (a : SimpleType) → RestoreArguments a
    restores (base n) = tt
    restores (arrow a b) = (λ ctx u h. settles a (ways a) [] u (bound zero) ctx (lifts a) refl h, restores b)

  pub restored : (a : SimpleType) → Restores a
  restored a ctx u h = (restores (arrow a a)).0 ctx u h

  mutual
    -- a canonical term is its own normal form
    pub normal_form-canonical : (ctx : List SimpleType) (b : SimpleType) (t : Lambda) → IsCanonical scope ctx b t → normal_form scope ctx t ≡ t
    normal_form-canonical ctx b (bound k) h = ap (λ o. eta_if o (bound k)) h.1 ∙ eta_base b (bound k) h.0
    normal_form-canonical ctx b (constant c) h = ap (λ o. eta_if o (constant c)) h.1 ∙ eta_base b (constant c) h.0
    normal_form-canonical ctx b (lam c s) h = ap (lam c) (under_lam c b _ _ (λ d k. normal_form-canonical (c ∷ ctx) d s k) h.1)
    normal_form-canonical ctx b (app s u) h =
        ap₂ apply (normal_form-neutral ctx (arrow h.1.0 b) s h.1.1) (normal_form-canonical ctx h.1.0 u h.1.2)
        ∙ apply-eta h.1.0 b ctx s u (restored h.1.0) h.1.2
        ∙ eta_base b (app s u) h.0

    -- of a head with arguments it is the eta-long form
    pub normal_form-neutral : (ctx : List SimpleType) (b : SimpleType) (t : Lambda) → IsNeutral scope ctx b t → normal_form scope ctx t ≡ eta b t
    normal_form-neutral ctx b (bound k) h = ap (λ o. eta_if o (bound k)) h
    normal_form-neutral ctx b (constant c) h = ap (λ o. eta_if o (constant c)) h
    normal_form-neutral ctx b (lam c s) h = absurd h
    normal_form-neutral ctx b (app s u) h =
        ap₂ apply (normal_form-neutral ctx (arrow h.0 b) s h.1) (normal_form-canonical ctx h.0 u h.2)
        ∙ apply-eta h.0 b ctx s u (restored h.0) h.2

  -- an eta-long head applied to one argument after the other
  pub apply_each-eta : (ctx : List SimpleType) (a : SimpleType) (h : Lambda) (us : List Lambda) → ArgumentsFit scope ctx a us → apply_each (eta a h) us ≡ eta (result_after (length us) a) (applied h us)
  apply_each-eta ctx a h [] f = refl
  apply_each-eta ctx (base n) h (u ∷ us) f = absurd f
  apply_each-eta ctx (arrow a b) h (u ∷ us) f =
      ap (λ t. apply_each t us) (apply-eta a b ctx h u (restored a) f.0) ∙ apply_each-eta ctx b (app h u) us f.1
