-- Putting the eta-long form of a variable in for a variable renames it, and a canonical function is the lambda of its application to the
-- eta-long form of the new variable.
use Rattle.std.proofs.Common.{◌≡◌, zero, suc, ℕ, List, [], ◌∷◌, ◌++◌, length, Some, slice_get, ◌⊎◌, inl, inr, refl, ap, ap₂, ◌∙◌}
use Rattle.stt_core.specs.SimpleType.{SimpleType, base, arrow}
use Rattle.stt_core.specs.Lambda.{Lambda, bound, constant, lam, app}
use Rattle.stt_core.specs.Typing.{Scope}
use Rattle.stt_core.specs.Canonical.{IsBase, IsCanonical, IsNeutral}
use Rattle.stt_core.specs.Lift.{raised, lift}
use Rattle.normal_forms.specs.Normal.{Way, later, by_first, ways_at, ways_of, put, replace, apply, apply_by, ways, eta}
use Rattle.normal_forms.proofs.CommuteLaws.{lifts, of_away, replace_away, replace-eta}
use Rattle.normal_forms.proofs.EtaReplace.{lift-eta, restored}
use Rattle.conv_laws.proofs.Swaps.{under_lam}

eta_base : (a : SimpleType) (t : Lambda) → IsBase a → eta a t ≡ t
eta_base (base n) t h = refl
eta_base (arrow a b) t h = absurd h

module _ (scope : Scope) where
  -- an eta-long head applied to one more argument
  apply-eta : (a b : SimpleType) (ctx : List SimpleType) (s u : Lambda) → IsCanonical scope ctx a u → replace (ways a) zero u (eta b (app (lift zero s) (eta a (bound zero)))) ≡ eta b (app s u)
  apply-eta a b ctx s u h =
      replace-eta (ways a) (lifts a) [] u b (app (lift zero s) (eta a (bound zero))) (ap later (of_away [] (ways a) s))
      ∙ ap (eta b)
      (ap (λ vs. by_first vs (replace (ways a) zero u (lift zero s)) (replace (ways a) zero u (eta a (bound zero)))) (of_away [] (ways a) s)
      ∙ ap₂ app (replace_away (ways a) [] u s) (restored scope a ctx u h))

  module _ (a : SimpleType) (ctx : List SimpleType) where
    -- what a head with arguments becomes where the variable is renamed: itself, or where that is its head, its eta-long form
    abbrev Renamed : SimpleType → List Way → Lambda → Lambda → Type 0
    Renamed b ws new t = ((ws ≡ []) × (new ≡ t)) ⊎ ((ws ≡ ways b) × (new ≡ eta b t))

    renamed-lift : (b : SimpleType) (ws : List Way) (new t : Lambda) → Renamed b ws new t → Renamed b ws (lift zero new) (lift zero t)
    renamed-lift b ws new t (inl h) = inl (h.0, ap (lift zero) h.1)
    renamed-lift b ws new t (inr h) = inr (h.0, ap (lift zero) h.1 ∙ lift-eta [] b t)

    renamed_bound : (front : List SimpleType) (b : SimpleType) (j : ℕ) → slice_get (front ++ a ∷ ctx) j ≡ Some b → Renamed b (ways_at (length front) (raised (suc (length front)) j) (ways a)) (put (length front) (eta a (bound zero)) (raised (suc (length front)) j)) (bound j)
    renamed_bound [] b zero h =
        let e : a ≡ b = cc in
        inr (ap ways e, ap (λ x. eta x (bound zero)) e)
    renamed_bound [] b (suc j) h = inl (refl, refl)
    renamed_bound (c ∷ front) b zero h = inl (refl, refl)
    renamed_bound (c ∷ front) b (suc j) h = renamed-lift b _ _ (bound j) (renamed_bound front b j h)

    renamed_app : (gamma : List SimpleType) (c b : SimpleType) (ws : List Way) (s' u' s u : Lambda) → Renamed (arrow c b) ws s' s → IsCanonical scope gamma c u → u' ≡ u → Renamed b (later ws) (by_first ws s' u') (app s u)
    renamed_app gamma c b ws s' u' s u (inl h) hu e = inl (ap later h.0, ap (λ vs. by_first vs s' u') h.0 ∙ ap₂ app h.1 e)
    renamed_app gamma c b ws s' u' s u (inr h) hu e =
        inr (ap later h.0, ap (λ vs. by_first vs s' u') h.0 ∙ ap₂ (apply_by (ways c)) h.1 e ∙ apply-eta c b gamma s u hu)

    at_base : (b : SimpleType) (ws : List Way) (new t : Lambda) → IsBase b → Renamed b ws new t → new ≡ t
    at_base b ws new t h (inl r) = r.1
    at_base b ws new t h (inr r) = r.1 ∙ eta_base b t h

    mutual
      pub rename : (front : List SimpleType) (b : SimpleType) (t : Lambda) → IsCanonical scope (front ++ a ∷ ctx) b t → replace (ways a) (length front) (eta a (bound zero)) (lift (suc (length front)) t) ≡ t
      rename front b (bound j) h = at_base b _ _ (bound j) h.0 (renamed_bound front b j h.1)
      rename front b (constant c) h = refl
      rename front b (lam c s) h = ap (lam c) (under_lam c b _ _ (λ d k. rename (c ∷ front) d s k) h.1)
      rename front b (app s u) h = at_base b _ _ (app s u) h.0 (renamed_app (front ++ a ∷ ctx) h.1.0 b _ _ _ s u (rename_neutral front (arrow h.1.0 b) s h.1.1) h.1.2 (rename front h.1.0 u h.1.2))

      rename_neutral : (front : List SimpleType) (b : SimpleType) (t : Lambda) → IsNeutral scope (front ++ a ∷ ctx) b t → Renamed b (ways_of (ways a) (length front) (lift (suc (length front)) t)) (replace (ways a) (length front) (eta a (bound zero)) (lift (suc (length front)) t)) t
      rename_neutral front b (bound j) h = renamed_bound front b j h
      rename_neutral front b (constant c) h = inl (refl, refl)
      rename_neutral front b (lam c s) h = absurd h
      rename_neutral front b (app s u) h = renamed_app (front ++ a ∷ ctx) h.0 b _ _ _ s u (rename_neutral front (arrow h.0 b) s h.1) h.2 (rename front h.0 u h.2)

  pub function_is_lambda : (ctx : List SimpleType) (a b : SimpleType) (f : Lambda) → IsCanonical scope ctx (arrow a b) f → lam a (apply (lift zero f) (eta a (bound zero))) ≡ f
  function_is_lambda ctx a b (bound k) h = absurd h.0
  function_is_lambda ctx a b (constant c) h = absurd h.0
  function_is_lambda ctx a b (app s u) h = absurd h.0
  function_is_lambda ctx a b (lam c g) h =
      ap (λ x. lam x (replace (ways c) zero (eta x (bound zero)) (lift (suc zero) g))) h.1.0
      ∙ ap (lam c) (rename c ctx [] b g h.1.1)
