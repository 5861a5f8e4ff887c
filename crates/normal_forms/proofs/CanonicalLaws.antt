-- Applying keeps canonical terms canonical.
use Rattle.std.proofs.Common.{◌≡◌, ℕ, zero, suc, List, [], ◌∷◌, ◌++◌, length, Some, refl, subst, ◌∙◌, sym, slice_get, ◌⊎◌, inl, inr}
use Rattle.stt_core.specs.SimpleType.{SimpleType, base, arrow}
use Rattle.stt_core.specs.Lambda.{Lambda, bound, constant, lam, app}
use Rattle.stt_core.specs.Typing.{Scope}
use Rattle.stt_core.specs.Canonical.{IsBase, IsFrom, IsCanonical, IsNeutral}
use Rattle.stt_core.specs.Lift.{lift}
use Rattle.normal_forms.specs.Normal.{Way, later, by_first, ways_of, put, replace, apply_by, ways, apply}
use Rattle.stt_core.proofs.LiftLaws.{get_raised}

from_map : (a b : SimpleType) (P Q : SimpleType → Type 0) → ((c : SimpleType) → P c → Q c) → IsFrom a b P → IsFrom a b Q
from_map a (base n) P Q f h = h
from_map a (arrow c b) P Q f h = (h.0, f b h.1)

module _ (scope : Scope) where
  mutual
    pub canonical-lift : (pre : List SimpleType) (b : SimpleType) (ctx : List SimpleType) (a : SimpleType) (t : Lambda) → IsCanonical scope (pre ++ ctx) a t → IsCanonical scope (pre ++ b ∷ ctx) a (lift (length pre) t)
    canonical-lift pre b ctx a (bound j) h = (h.0, get_raised pre b ctx j ∙ h.1)
    canonical-lift pre b ctx a (constant c) h = h
    canonical-lift pre b ctx a (lam c s) h = (h.0, from_map c a _ _ (λ d k. canonical-lift (c ∷ pre) b ctx d s k) h.1)
    canonical-lift pre b ctx a (app s u) h = (h.0, (h.1.0, neutral-lift pre b ctx (arrow h.1.0 a) s h.1.1, canonical-lift pre b ctx h.1.0 u h.1.2))

    pub neutral-lift : (pre : List SimpleType) (b : SimpleType) (ctx : List SimpleType) (a : SimpleType) (t : Lambda) → IsNeutral scope (pre ++ ctx) a t → IsNeutral scope (pre ++ b ∷ ctx) a (lift (length pre) t)
    neutral-lift pre b ctx a (bound j) h = get_raised pre b ctx j ∙ h
    neutral-lift pre b ctx a (constant c) h = h
    neutral-lift pre b ctx a (lam c s) h = h
    neutral-lift pre b ctx a (app s u) h = (h.0, neutral-lift pre b ctx (arrow h.0 a) s h.1, canonical-lift pre b ctx h.0 u h.2)

  -- a head with its arguments is canonical at a base type
  pub of_neutral : (ctx : List SimpleType) (a : SimpleType) (t : Lambda) → IsBase a → IsNeutral scope ctx a t → IsCanonical scope ctx a t
  of_neutral ctx a (bound j) b h = (b, h)
  of_neutral ctx a (constant c) b h = (b, h)
  of_neutral ctx a (lam c s) b h = absurd h
  of_neutral ctx a (app s u) b h = (b, h)

  -- the ways are those of a term of this type: each gives a canonical term of what is left of the type
  abbrev pub Keeps : SimpleType → List Way → Type 0
  Keeps (base n) ws = ws ≡ []
  Keeps (arrow a b) [] = ⊥
  Keeps (arrow a b) (w ∷ ws) = ((ctx : List SimpleType) (f u : Lambda) → IsCanonical scope ctx (arrow a b) f → IsCanonical scope ctx a u → IsCanonical scope ctx b (w f u)) × Keeps b ws

  -- what a head with arguments becomes: the same, or where the variable is its head, a canonical term
  abbrev pub Outcome : List SimpleType → SimpleType → List Way → Lambda → Type 0
  Outcome ctx b ws t = ((ws ≡ []) × IsNeutral scope ctx b t) ⊎ (Keeps b ws × IsCanonical scope ctx b t)

  outcome-lift : (c : SimpleType) (ctx : List SimpleType) (b : SimpleType) (ws : List Way) (t : Lambda) → Outcome ctx b ws t → Outcome (c ∷ ctx) b ws (lift zero t)
  outcome-lift c ctx b ws t (inl h) = inl (h.0, neutral-lift [] c ctx b t h.1)
  outcome-lift c ctx b ws t (inr h) = inr (h.0, canonical-lift [] c ctx b t h.1)

  step : (ctx : List SimpleType) (c b : SimpleType) (ws : List Way) (s u : Lambda) → Outcome ctx (arrow c b) ws s → IsCanonical scope ctx c u → Outcome ctx b (later ws) (by_first ws s u)
  step ctx c b [] s u (inl h) hu = inl (refl, (c, h.1, hu))
  step ctx c b [] s u (inr h) hu = absurd h.0
  step ctx c b (w ∷ ws) s u (inl h) hu = let e = h.0 in cc
  step ctx c b (w ∷ ws) s u (inr h) hu = inr (h.0.1, h.0.0 ctx s u h.1 hu)

  at_base : (ctx : List SimpleType) (b : SimpleType) (ws : List Way) (t : Lambda) → IsBase b → Outcome ctx b ws t → IsCanonical scope ctx b t
  at_base ctx b ws t h (inl o) = of_neutral ctx b t h o.1
  at_base ctx b ws t h (inr o) = o.1

  module _ (ctx : List SimpleType) (a : SimpleType) (r : Lambda) (ws : List Way) (hr : IsCanonical scope ctx a r) (hws : Keeps a ws) where
    outcome-put : (pre : List SimpleType) (b : SimpleType) (j : ℕ) → slice_get (pre ++ a ∷ ctx) j ≡ Some b → Outcome (pre ++ ctx) b (ways_of ws (length pre) (bound j)) (put (length pre) r j)
    outcome-put [] b zero h =
        let e : a ≡ b = cc in
        inr (subst (λ x. Keeps x ws) e hws, subst (λ x. IsCanonical scope ctx x r) e hr)
    outcome-put [] b (suc j) h = inl (refl, h)
    outcome-put (c ∷ pre) b zero h = inl (refl, h)
    outcome-put (c ∷ pre) b (suc j) h = outcome-lift c (pre ++ ctx) b _ _ (outcome-put pre b j h)

    mutual
      pub canonical-replace : (pre : List SimpleType) (b : SimpleType) (t : Lambda) → IsCanonical scope (pre ++ a ∷ ctx) b t → IsCanonical scope (pre ++ ctx) b (replace ws (length pre) r t)
      canonical-replace pre b (bound j) h = at_base _ b _ _ h.0 (outcome-put pre b j h.1)
      canonical-replace pre b (constant c) h = h
      canonical-replace pre b (lam c s) h = (h.0, from_map c b _ _ (λ d k. canonical-replace (c ∷ pre) d s k) h.1)
      canonical-replace pre b (app s u) h =
          at_base _ b _ _ h.0 (step _ h.1.0 b _ _ _ (outcome-replace pre (arrow h.1.0 b) s h.1.1) (canonical-replace pre h.1.0 u h.1.2))

      pub outcome-replace : (pre : List SimpleType) (b : SimpleType) (t : Lambda) → IsNeutral scope (pre ++ a ∷ ctx) b t → Outcome (pre ++ ctx) b (ways_of ws (length pre) t) (replace ws (length pre) r t)
      outcome-replace pre b (bound j) h = outcome-put pre b j h
      outcome-replace pre b (constant c) h = inl (refl, h)
      outcome-replace pre b (lam c s) h = absurd h
      outcome-replace pre b (app s u) h = step _ h.0 b _ _ _ (outcome-replace pre (arrow h.0 b) s h.1) (canonical-replace pre h.0 u h.2)

  canonical-apply_by : (ctx : List SimpleType) (a b : SimpleType) (ws : List Way) (f u : Lambda) → Keeps a ws → IsCanonical scope ctx (arrow a b) f → IsCanonical scope ctx a u → IsCanonical scope ctx b (apply_by ws f u)
  canonical-apply_by ctx a b ws (bound k) u h hf hu = absurd hf.0
  canonical-apply_by ctx a b ws (constant c) u h hf hu = absurd hf.0
  canonical-apply_by ctx a b ws (app s v) u h hf hu = absurd hf.0
  canonical-apply_by ctx a b ws (lam c s) u h hf hu =
      canonical-replace ctx a u ws hu h [] b s (subst (λ x. IsCanonical scope (x ∷ ctx) b s) (sym hf.1.0) hf.1.1)

  pub keeps : (a : SimpleType) → Keeps a (ways a)
  keeps (base n) = refl
  keeps (arrow a b) = (λ ctx f u hf hu. canonical-apply_by ctx a b (ways a) f u (keeps a) hf hu, keeps b)

  -- applying a canonical function arrow a canonical argument gives a canonical term
  pub canonical-apply : (ctx : List SimpleType) (a b : SimpleType) (f u : Lambda) → IsCanonical scope ctx (arrow a b) f → IsCanonical scope ctx a u → IsCanonical scope ctx b (apply f u)
  canonical-apply ctx a b (bound k) u hf hu = absurd hf.0
  canonical-apply ctx a b (constant c) u hf hu = absurd hf.0
  canonical-apply ctx a b (app s v) u hf hu = absurd hf.0
  canonical-apply ctx a b (lam c s) u hf hu =
      canonical-replace ctx c u (ways c) (subst (λ x. IsCanonical scope ctx x u) hf.1.0 hu) (keeps c) [] b s hf.1.1
