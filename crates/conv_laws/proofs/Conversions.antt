-- A typed term is convertible with its normal form.
use Rattle.std.proofs.Common.{◌≡◌, zero, suc, ℕ, List, [], ◌∷◌, ◌++◌, length, Some, slice_get, true, ◌⊎◌, inl, inr, refl, sym, ap, subst, ◌∙◌}
use Rattle.std.proofs.lemmas.Bool.{and_parts}
use Rattle.stt_core.specs.SimpleType.{SimpleType, base, arrow, is_declared}
use Rattle.stt_core.specs.Lambda.{Lambda, bound, constant, lam, app}
use Rattle.stt_core.specs.Typing.{Scope, IsScope, AreDeclared}
use Rattle.stt_core.specs.Canonical.{IsCanonical, IsNeutral}
use Rattle.stt_core.specs.Lift.{lift}
use Rattle.stt_core.proofs.LiftLaws.{type_of-lift}
use Rattle.stt_core.proofs.TypeLaws.{type_of-canonical, applies, abstracts, get_declared, constant_declared}
use Rattle.normal_forms.specs.Normal.{Way, later, by_first, ways_at, ways_of, replace, apply, apply_by, ways, eta, eta_if, normal_form}
use Rattle.normal_forms.proofs.CanonicalLaws.{Outcome, keeps, canonical-replace, outcome-replace}
use Rattle.normal_forms.proofs.ApplyValues.{from}
use Rattle.normal_forms.proofs.NormalValues.{canonical-normal_form}
use Rattle.conv_laws.specs.Steps.{substitute, by_beta, by_eta, HasType, AreConvertibleAt}
use Rattle.conv_laws.proofs.Swaps.{taken}
use Rattle.conv_laws.proofs.Substitutes.{variable-put, type_of-substitute}
use Rattle.conv_laws.proofs.Chains.{typed-lam, typed-app, same_converts, step_converts, then_converts, last_typed, body_converts, parts_convert}

module _ (scope : Scope) where
  -- ETA

  pub eta_converts : (ctx : List SimpleType) (a : SimpleType) (t : Lambda) → is_declared scope.bases a ≡ true → HasType scope ctx a t → AreConvertibleAt scope ctx a t (eta a t)
  eta_converts ctx (base n) t d h = same_converts scope ctx (base n) t t h refl
  eta_converts ctx (arrow a b) t d h =
      let p = and_parts _ _ d in
      let t' = lift zero t in
      let x = eta a (bound zero) in
      let lifted : HasType scope (a ∷ ctx) (arrow a b) t' = type_of-lift scope [] a ctx t ∙ h in
      let plain : HasType scope (a ∷ ctx) b (app t' (bound zero)) = typed-app scope (a ∷ ctx) a b t' (bound zero) lifted refl in
      let argument = parts_convert scope (a ∷ ctx) a b t' t' (bound zero) x (same_converts scope (a ∷ ctx) (arrow a b) t' t' lifted refl) (eta_converts (a ∷ ctx) a (bound zero) p.0 refl) in
      let typed = last_typed scope (a ∷ ctx) b (app t' (bound zero)) (app t' x) argument in
      then_converts scope ctx (arrow a b) t (lam a (app t' (bound zero))) (eta (arrow a b) t)
      (step_converts scope ctx (arrow a b) t (lam a (app t' (bound zero))) h (typed-lam scope ctx a b (app t' (bound zero)) p.0 plain) (inr (by_eta a t)))
      (body_converts scope ctx a b (app t' (bound zero)) (eta b (app t' x)) p.0 (then_converts scope (a ∷ ctx) b (app t' (bound zero)) (app t' x) (eta b (app t' x)) argument (eta_converts (a ∷ ctx) b (app t' x) p.1 typed)))

  -- BETA

  -- an application is convertible with what the function gives by its way
  abbrev Beta : SimpleType → Type 0
  Beta c =
      (ctx : List SimpleType) (d : SimpleType) (f u : Lambda) → IsCanonical scope ctx (arrow c d) f → IsCanonical scope ctx c u → AreConvertibleAt scope ctx d (app f u) (apply_by (ways c) f u)

  -- the same for each argument
  abbrev Betas : SimpleType → Type 0
  Betas (base n) = Unit {0}
  Betas (arrow c d) = Beta c × Betas d

  module _ (ctx : List SimpleType) (a : SimpleType) (r : Lambda) (hr : IsCanonical scope ctx a r) (betas : Betas a) where
    -- the ways that are left
    abbrev Left : SimpleType → List Way → Type 0
    Left c ws = (ws ≡ []) ⊎ ((ws ≡ ways c) × Betas c)

    left_at : (front : List SimpleType) (c : SimpleType) (j : ℕ) → slice_get (front ++ a ∷ ctx) j ≡ Some c → Left c (ways_at (length front) j (ways a))
    left_at [] c zero h = let e : a ≡ c = cc in inr (ap ways e, subst Betas e betas)
    left_at [] c (suc j) h = inl refl
    left_at (x ∷ front) c zero h = inl refl
    left_at (x ∷ front) c (suc j) h = left_at front c j h

    left_later : (c d : SimpleType) (ws : List Way) → Left (arrow c d) ws → Left d (later ws)
    left_later c d ws (inl e) = inl (ap later e)
    left_later c d ws (inr h) = inr (ap later h.0, h.1.1)

    left_of : (front : List SimpleType) (c : SimpleType) (t : Lambda) → IsNeutral scope (front ++ a ∷ ctx) c t → Left c (ways_of (ways a) (length front) t)
    left_of front c (bound j) h = left_at front c j h
    left_of front c (constant k) h = inl refl
    left_of front c (lam x s) h = absurd h
    left_of front c (app t u) h = left_later h.0 c _ (left_of front (arrow h.0 c) t h.1)

    by_way : (gamma : List SimpleType) (c d : SimpleType) (ws : List Way) (f u : Lambda) → HasType scope gamma d (app f u) → Outcome scope gamma (arrow c d) ws f → Left (arrow c d) ws → IsCanonical scope gamma c u → AreConvertibleAt scope gamma d (app f u) (by_first ws f u)
    by_way gamma c d ws f u h o (inl e) hu = same_converts scope gamma d (app f u) (by_first ws f u) h (ap (λ vs. by_first vs f u) (sym e))
    by_way gamma c d ws f u h o (inr l) hu =
        subst (λ vs. AreConvertibleAt scope gamma d (app f u) (by_first vs f u)) (sym l.0) (l.1.0 gamma d f u (taken scope gamma c d ws f o l.0) hu)

    leaf : (front : List SimpleType) (b : SimpleType) (t : Lambda) → HasType scope (front ++ a ∷ ctx) b t → substitute (length front) r t ≡ replace (ways a) (length front) r t → AreConvertibleAt scope (front ++ ctx) b (substitute (length front) r t) (replace (ways a) (length front) r t)
    leaf front b t h e =
        same_converts scope (front ++ ctx) b _ _ (type_of-substitute scope ctx a r (type_of-canonical scope ctx a r hr) front t ∙ h) e

    application : (front : List SimpleType) (c b : SimpleType) (t u : Lambda) → IsNeutral scope (front ++ a ∷ ctx) (arrow c b) t → IsCanonical scope (front ++ a ∷ ctx) c u → AreConvertibleAt scope (front ++ ctx) (arrow c b) (substitute (length front) r t) (replace (ways a) (length front) r t) → AreConvertibleAt scope (front ++ ctx) c (substitute (length front) r u) (replace (ways a) (length front) r u) → AreConvertibleAt scope (front ++ ctx) b (substitute (length front) r (app t u)) (replace (ways a) (length front) r (app t u))
    application front c b t u ht hu kt ku =
        let parts = parts_convert scope (front ++ ctx) c b (substitute (length front) r t) (replace (ways a) (length front) r t) (substitute (length front) r u) (replace (ways a) (length front) r u) kt ku in
        then_converts scope (front ++ ctx) b _ _ _ parts
        (by_way (front ++ ctx) c b (ways_of (ways a) (length front) t) (replace (ways a) (length front) r t) (replace (ways a) (length front) r u) (last_typed scope (front ++ ctx) b _ _ parts) (outcome-replace scope ctx a r (ways a) hr (keeps scope a) front (arrow c b) t ht) (left_of front (arrow c b) t ht) (canonical-replace scope ctx a r (ways a) hr (keeps scope a) front c u hu))

    mutual
      pub replace_converts : (front : List SimpleType) (b : SimpleType) (t : Lambda) → IsCanonical scope (front ++ a ∷ ctx) b t → AreConvertibleAt scope (front ++ ctx) b (substitute (length front) r t) (replace (ways a) (length front) r t)
      replace_converts front b (bound j) h = leaf front b (bound j) h.1 (variable-put (length front) r j)
      replace_converts front b (constant c) h = leaf front b (constant c) h.1 refl
      replace_converts front b (lam c s) h =
          let d = from c b _ h.1 in
          subst (λ x. AreConvertibleAt scope (front ++ ctx) x (lam c (substitute (suc (length front)) r s)) (lam c (replace (ways a) (suc (length front)) r s))) (sym d.is)
          (body_converts scope (front ++ ctx) c d.result _ _ h.0 (replace_converts (c ∷ front) d.result s d.holds))
      replace_converts front b (app t u) h =
          application front h.1.0 b t u h.1.1 h.1.2 (neutral_converts front (arrow h.1.0 b) t h.1.1) (replace_converts front h.1.0 u h.1.2)

      neutral_converts : (front : List SimpleType) (b : SimpleType) (t : Lambda) → IsNeutral scope (front ++ a ∷ ctx) b t → AreConvertibleAt scope (front ++ ctx) b (substitute (length front) r t) (replace (ways a) (length front) r t)
      neutral_converts front b (bound j) h = leaf front b (bound j) h (variable-put (length front) r j)
      neutral_converts front b (constant c) h = leaf front b (constant c) h refl
      neutral_converts front b (lam c s) h = absurd h
      neutral_converts front b (app t u) h =
          application front h.0 b t u h.1 h.2 (neutral_converts front (arrow h.0 b) t h.1) (replace_converts front h.0 u h.2)

  -- a function applied to an argument
  body_at : (ctx : List SimpleType) (c d : SimpleType) (g u : Lambda) → Betas c → is_declared scope.bases c ≡ true → IsCanonical scope (c ∷ ctx) d g → IsCanonical scope ctx c u → AreConvertibleAt scope ctx d (app (lam c g) u) (replace (ways c) zero u g)
  body_at ctx c d g u betas k hg hu =
      let g_typed = type_of-canonical scope (c ∷ ctx) d g hg in
      let u_typed = type_of-canonical scope ctx c u hu in
      then_converts scope ctx d (app (lam c g) u) (substitute zero u g) (replace (ways c) zero u g)
      (step_converts scope ctx d (app (lam c g) u) (substitute zero u g) (typed-app scope ctx c d (lam c g) u (typed-lam scope ctx c d g k g_typed) u_typed) (type_of-substitute scope ctx c u u_typed [] g ∙ g_typed) (inl (by_beta c g u)))
      (replace_converts ctx c u hu betas [] d g hg)

  beta_from : (c : SimpleType) → Betas c → Beta c
  beta_from c betas ctx d (bound k) u hf hu = absurd hf.0
  beta_from c betas ctx d (constant k) u hf hu = absurd hf.0
  beta_from c betas ctx d (app s v) u hf hu = absurd hf.0
  beta_from c betas ctx d (lam x g) u hf hu =
      subst (λ y. AreConvertibleAt scope ctx d (app (lam x g) u) (replace (ways y) zero u g)) (sym hf.1.0)
      (body_at ctx x d g u (subst Betas hf.1.0 betas) hf.0 hf.1.1 (subst (λ y. IsCanonical scope ctx y u) hf.1.0 hu))

  betas_of : (a : SimpleType) → Betas a
  betas_of (base n) = tt
  betas_of (arrow c d) = (beta_from c (betas_of c), betas_of d)

  pub apply_converts : (ctx : List SimpleType) (c d : SimpleType) (f u : Lambda) → IsCanonical scope ctx (arrow c d) f → IsCanonical scope ctx c u → AreConvertibleAt scope ctx d (app f u) (apply f u)
  apply_converts ctx c d (bound k) u hf hu = absurd hf.0
  apply_converts ctx c d (constant k) u hf hu = absurd hf.0
  apply_converts ctx c d (app s v) u hf hu = absurd hf.0
  apply_converts ctx c d (lam x g) u hf hu =
      body_at ctx x d g u (betas_of x) hf.0 hf.1.1 (subst (λ y. IsCanonical scope ctx y u) hf.1.0 hu)

  -- NORMAL FORMS

  module _ (over : IsScope scope) where
    pub normal_form_converts : (ctx : List SimpleType) (a : SimpleType) (t : Lambda) → AreDeclared scope.bases ctx → HasType scope ctx a t → AreConvertibleAt scope ctx a t (normal_form scope ctx t)
    normal_form_converts ctx a (bound k) d h =
        subst (λ o. AreConvertibleAt scope ctx a (bound k) (eta_if o (bound k))) (sym h) (eta_converts ctx a (bound k) (get_declared scope.bases ctx k a d h) h)
    normal_form_converts ctx a (constant c) d h =
        subst (λ o. AreConvertibleAt scope ctx a (constant c) (eta_if o (constant c))) (sym h) (eta_converts ctx a (constant c) (constant_declared scope over c a h) h)
    normal_form_converts ctx a (lam c s) d h =
        let p = abstracts scope.bases c _ a h in
        subst (λ x. AreConvertibleAt scope ctx x (lam c s) (lam c (normal_form scope (c ∷ ctx) s))) (sym p.is)
        (body_converts scope ctx c p.result s (normal_form scope (c ∷ ctx) s) p.declared (normal_form_converts (c ∷ ctx) p.result s (p.declared, d) p.body_type))
    normal_form_converts ctx a (app s u) d h =
        let p = applies _ _ a h in
        then_converts scope ctx a (app s u) (app (normal_form scope ctx s) (normal_form scope ctx u)) (apply (normal_form scope ctx s) (normal_form scope ctx u))
        (parts_convert scope ctx p.argument a s (normal_form scope ctx s) u (normal_form scope ctx u) (normal_form_converts ctx (arrow p.argument a) s d p.function_type) (normal_form_converts ctx p.argument u d p.argument_type))
        (apply_converts ctx p.argument a (normal_form scope ctx s) (normal_form scope ctx u) (canonical-normal_form scope over ctx (arrow p.argument a) s d p.function_type) (canonical-normal_form scope over ctx p.argument u d p.argument_type))
