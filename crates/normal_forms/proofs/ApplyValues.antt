-- Applying has the value of the application.
use Rattle.std.proofs.Common.{◌≡◌, ℕ, zero, suc, ◌<◌, List, [], ◌∷◌, ◌++◌, length, Some, refl, ap, ap₂, subst, ◌∙◌, sym, slice_get, slice_index, ◌⊎◌, inl, inr, arith}
use Rattle.stt_core.specs.SimpleType.{SimpleType, base, arrow}
use Rattle.stt_core.specs.Lambda.{Lambda, bound, constant, lam, app}
use Rattle.stt_core.specs.Typing.{Scope}
use Rattle.stt_core.specs.Canonical.{IsFrom, IsCanonical, IsNeutral}
use Rattle.stt_core.specs.Digits.{entry}
use Rattle.stt_core.specs.Meaning.{Model, size, value, Fits, IsModel}
use Rattle.stt_core.proofs.DigitLaws.{entry-table, table_same}
use Rattle.stt_core.proofs.TypeLaws.{type_of-canonical, type_of-neutral}
use Rattle.stt_core.proofs.ValueLaws.{size_pos, value-lt, value-lam, value-app}
use Rattle.normal_forms.specs.Normal.{Way, later, by_first, ways_at, ways_of, put, replace, apply_by, ways}
use Rattle.stt_core.proofs.LiftLaws.{value-lift}
use Rattle.normal_forms.proofs.CanonicalLaws.{Keeps, Outcome, keeps, canonical-replace, outcome-replace}

-- a type from a is a function type
pub record From (a b : SimpleType) (P : SimpleType → Type 0) : Type 0 where
  pub result : SimpleType
  pub is : b ≡ arrow a result
  pub holds : P result

pub from : (a b : SimpleType) (P : SimpleType → Type 0) → IsFrom a b P → From a b P
from a (base n) P h = absurd h
from a (arrow c b) P h = record { result = b; is = ap (λ x. arrow x b) h.0; holds = h.1 }

module _ (scope : Scope) (m : Model) where
  value-put : (pre : List SimpleType) (es : List ℕ) → length es ≡ length pre → (ctx : List SimpleType) (env : List ℕ) (r : Lambda) (j : ℕ) → value scope m (pre ++ ctx) (es ++ env) (put (length pre) r j) ≡ slice_index (es ++ value scope m ctx env r ∷ env) j
  value-put [] [] e ctx env r zero = refl
  value-put [] [] e ctx env r (suc j) = refl
  value-put [] (x ∷ es) e ctx env r j = absurd (omega arith)
  value-put (c ∷ pre) [] e ctx env r j = absurd (omega arith)
  value-put (c ∷ pre) (x ∷ es) e ctx env r zero = refl
  value-put (c ∷ pre) (x ∷ es) e ctx env r (suc j) =
      value-lift scope m [] [] refl c x (pre ++ ctx) (es ++ env) (put (length pre) r j) ∙ value-put pre es (omega arith) ctx env r j

  -- each way has the value of the application
  abbrev pub Means : SimpleType → List Way → Type 0
  Means (base n) ws = ws ≡ []
  Means (arrow a b) [] = ⊥
  Means (arrow a b) (w ∷ ws) = ((ctx : List SimpleType) (env : List ℕ) (f u : Lambda) → Fits m ctx env → IsCanonical scope ctx (arrow a b) f → IsCanonical scope ctx a u → value scope m ctx env (w f u) ≡ entry (size m b) (value scope m ctx env f) (value scope m ctx env u)) × Means b ws

  means_at : (pre : List SimpleType) (a : SimpleType) (ctx : List SimpleType) (b : SimpleType) (ws : List Way) (j : ℕ) → Means a ws → slice_get (pre ++ a ∷ ctx) j ≡ Some b → (ways_at (length pre) j ws ≡ []) ⊎ Means b (ways_at (length pre) j ws)
  means_at [] a ctx b ws zero mw h = let e : a ≡ b = cc in inr (subst (λ x. Means x ws) e mw)
  means_at [] a ctx b ws (suc j) mw h = inl refl
  means_at (c ∷ pre) a ctx b ws zero mw h = inl refl
  means_at (c ∷ pre) a ctx b ws (suc j) mw h = means_at pre a ctx b ws j mw h

  means_later : (c b : SimpleType) (ws : List Way) → (ws ≡ []) ⊎ Means (arrow c b) ws → (later ws ≡ []) ⊎ Means b (later ws)
  means_later c b [] h = inl refl
  means_later c b (w ∷ ws) (inl h) = cc
  means_later c b (w ∷ ws) (inr h) = inr h.1

  means_left : (pre : List SimpleType) (a : SimpleType) (ctx : List SimpleType) (b : SimpleType) (ws : List Way) (t : Lambda) → Means a ws → IsNeutral scope (pre ++ a ∷ ctx) b t → (ways_of ws (length pre) t ≡ []) ⊎ Means b (ways_of ws (length pre) t)
  means_left pre a ctx b ws (bound j) mw h = means_at pre a ctx b ws j mw h
  means_left pre a ctx b ws (constant c) mw h = inl refl
  means_left pre a ctx b ws (lam c s) mw h = absurd h
  means_left pre a ctx b ws (app s u) mw h = means_later h.0 b _ (means_left pre a ctx (arrow h.0 b) ws s mw h.1)

  value-step : (ctx : List SimpleType) (env : List ℕ) (c b : SimpleType) (ws : List Way) (s u : Lambda) → Fits m ctx env → Outcome scope ctx (arrow c b) ws s → (ws ≡ []) ⊎ Means (arrow c b) ws → IsCanonical scope ctx c u → value scope m ctx env (by_first ws s u) ≡ entry (size m b) (value scope m ctx env s) (value scope m ctx env u)
  value-step ctx env c b [] s u f (inl o) mw hu = value-app scope m ctx env c b s u (type_of-neutral scope ctx (arrow c b) s o.1)
  value-step ctx env c b [] s u f (inr o) mw hu = absurd o.0
  value-step ctx env c b (w ∷ ws) s u f (inl o) mw hu = let e = o.0 in cc
  value-step ctx env c b (w ∷ ws) s u f (inr o) (inl e) hu = cc
  value-step ctx env c b (w ∷ ws) s u f (inr o) (inr mw) hu = mw.0 ctx env s u f o.1 hu

  module _ (ctx : List SimpleType) (env : List ℕ) (a : SimpleType) (r : Lambda) (ws : List Way) (hr : IsCanonical scope ctx a r) (hws : Keeps scope a ws) (mws : Means a ws) where
    mutual
      pub value-replace : (pre : List SimpleType) (es : List ℕ) → length es ≡ length pre → Fits m (pre ++ ctx) (es ++ env) → (b : SimpleType) (t : Lambda) → IsCanonical scope (pre ++ a ∷ ctx) b t → value scope m (pre ++ ctx) (es ++ env) (replace ws (length pre) r t) ≡ value scope m (pre ++ a ∷ ctx) (es ++ value scope m ctx env r ∷ env) t
      value-replace pre es e f b (bound j) h = value-put pre es e ctx env r j
      value-replace pre es e f b (constant c) h = refl
      value-replace pre es e f b (lam c s) h =
          let d = from c b _ h.1 in
          value-lam scope m (pre ++ ctx) (es ++ env) c d.result (replace ws (suc (length pre)) r s) (type_of-canonical scope (c ∷ (pre ++ ctx)) d.result (replace ws (suc (length pre)) r s) (canonical-replace scope ctx a r ws hr hws (c ∷ pre) d.result s d.holds))
          ∙ table_same (size m d.result) (size m c) _ _ (λ x k. value-replace (c ∷ pre) (x ∷ es) (ap suc e) (k, f) d.result s d.holds)
          ∙ sym (value-lam scope m (pre ++ a ∷ ctx) (es ++ value scope m ctx env r ∷ env) c d.result s (type_of-canonical scope (c ∷ (pre ++ a ∷ ctx)) d.result s d.holds))
      value-replace pre es e f b (app s u) h =
          value-step (pre ++ ctx) (es ++ env) h.1.0 b _ _ _ f (outcome-replace scope ctx a r ws hr hws pre (arrow h.1.0 b) s h.1.1) (means_left pre a ctx (arrow h.1.0 b) ws s mws h.1.1) (canonical-replace scope ctx a r ws hr hws pre h.1.0 u h.1.2)
          ∙ ap₂ (entry (size m b)) (value-replace_neutral pre es e f (arrow h.1.0 b) s h.1.1) (value-replace pre es e f h.1.0 u h.1.2)
          ∙ sym (value-app scope m (pre ++ a ∷ ctx) (es ++ value scope m ctx env r ∷ env) h.1.0 b s u (type_of-neutral scope (pre ++ a ∷ ctx) (arrow h.1.0 b) s h.1.1))

      value-replace_neutral : (pre : List SimpleType) (es : List ℕ) → length es ≡ length pre → Fits m (pre ++ ctx) (es ++ env) → (b : SimpleType) (t : Lambda) → IsNeutral scope (pre ++ a ∷ ctx) b t → value scope m (pre ++ ctx) (es ++ env) (replace ws (length pre) r t) ≡ value scope m (pre ++ a ∷ ctx) (es ++ value scope m ctx env r ∷ env) t
      value-replace_neutral pre es e f b (bound j) h = value-put pre es e ctx env r j
      value-replace_neutral pre es e f b (constant c) h = refl
      value-replace_neutral pre es e f b (lam c s) h = absurd h
      value-replace_neutral pre es e f b (app s u) h =
          value-step (pre ++ ctx) (es ++ env) h.0 b _ _ _ f (outcome-replace scope ctx a r ws hr hws pre (arrow h.0 b) s h.1) (means_left pre a ctx (arrow h.0 b) ws s mws h.1) (canonical-replace scope ctx a r ws hr hws pre h.0 u h.2)
          ∙ ap₂ (entry (size m b)) (value-replace_neutral pre es e f (arrow h.0 b) s h.1) (value-replace pre es e f h.0 u h.2)
          ∙ sym (value-app scope m (pre ++ a ∷ ctx) (es ++ value scope m ctx env r ∷ env) h.0 b s u (type_of-neutral scope (pre ++ a ∷ ctx) (arrow h.0 b) s h.1))

  module _ (good : IsModel scope m) where
    -- a body at the argument's value is the entry of the lambda
    value-beta : (ctx : List SimpleType) (env : List ℕ) (a b : SimpleType) (s : Lambda) (x : ℕ) → Fits m ctx env → IsCanonical scope (a ∷ ctx) b s → x < size m a → value scope m (a ∷ ctx) (x ∷ env) s ≡ entry (size m b) (value scope m ctx env (lam a s)) x
    value-beta ctx env a b s x f h l =
        let t = type_of-canonical scope (a ∷ ctx) b s h in
        sym
        (ap (λ v. entry (size m b) v x) (value-lam scope m ctx env a b s t)
        ∙ entry-table (size m b) (size m a) _ (size_pos scope m good b) (λ y k. value-lt scope m good (a ∷ ctx) (y ∷ env) b s t (k, f)) x l)

    pub value-at : (ctx : List SimpleType) (env : List ℕ) (a b : SimpleType) (ws : List Way) (s u : Lambda) → Keeps scope a ws → Means a ws → Fits m ctx env → IsCanonical scope (a ∷ ctx) b s → IsCanonical scope ctx a u → value scope m ctx env (replace ws zero u s) ≡ entry (size m b) (value scope m ctx env (lam a s)) (value scope m ctx env u)
    value-at ctx env a b ws s u kw mw f hs hu =
        value-replace ctx env a u ws hu kw mw [] [] refl f b s hs
        ∙ value-beta ctx env a b s (value scope m ctx env u) f hs (value-lt scope m good ctx env a u (type_of-canonical scope ctx a u hu) f)

    value-apply_by : (ctx : List SimpleType) (env : List ℕ) (a b : SimpleType) (ws : List Way) (t u : Lambda) → Keeps scope a ws → Means a ws → Fits m ctx env → IsCanonical scope ctx (arrow a b) t → IsCanonical scope ctx a u → value scope m ctx env (apply_by ws t u) ≡ entry (size m b) (value scope m ctx env t) (value scope m ctx env u)
    value-apply_by ctx env a b ws (bound k) u kw mw f ht hu = absurd ht.0
    value-apply_by ctx env a b ws (constant c) u kw mw f ht hu = absurd ht.0
    value-apply_by ctx env a b ws (app s v) u kw mw f ht hu = absurd ht.0
    value-apply_by ctx env a b ws (lam c s) u kw mw f ht hu =
        subst (λ d. value scope m ctx env (replace ws zero u s) ≡ entry (size m b) (value scope m ctx env (lam d s)) (value scope m ctx env u)) ht.1.0
        (value-at ctx env a b ws s u kw mw f (subst (λ x. IsCanonical scope (x ∷ ctx) b s) (sym ht.1.0) ht.1.1) hu)

    pub means : (a : SimpleType) → Means a (ways a)
    means (base n) = refl
    means (arrow a b) = (λ ctx env t u f ht hu. value-apply_by ctx env a b (ways a) t u (keeps scope a) (means a) f ht hu, means b)
