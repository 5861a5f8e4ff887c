-- Replacing as it is said in words: where the variable is the head, its arguments are replaced first, and what replaces it is applied to
-- them one after the other.
use Rattle.std.proofs.Common.{◌≡◌, ◌≢◌, ℕ, zero, suc, List, [], ◌∷◌, ◌++◌, map, length, refl, ap, ap₂, ◌∙◌}
use Rattle.stt_core.specs.SimpleType.{SimpleType, base, arrow}
use Rattle.stt_core.specs.Lambda.{Lambda, bound, constant, lam, app, applied}
use Rattle.stt_core.specs.Typing.{Scope}
use Rattle.stt_core.specs.Canonical.{IsCanonical}
use Rattle.stt_core.specs.Lift.{lift_by}
use Rattle.normal_forms.specs.Normal.{ways_at, put, replace, apply, apply_by, apply_each, ways}
use Rattle.normal_forms.specs.Ready.{ArgumentsFit}
use Rattle.normal_forms.specs.Internal.Applying.{apply_ways}
use Rattle.normal_forms.proofs.CanonicalLaws.{canonical-apply}
use Rattle.normal_forms.proofs.ReplaceLaws.{apply_ways_none, replace-applied, put_same, ways_same, map_fits, lift_front}

module _ (scope : Scope) (ctx : List SimpleType) where
  way_is_apply : (a b : SimpleType) (f u : Lambda) → IsCanonical scope ctx (arrow a b) f → apply_by (ways a) f u ≡ apply f u
  way_is_apply a b (bound k) u h = absurd h.0
  way_is_apply a b (constant c) u h = absurd h.0
  way_is_apply a b (app s v) u h = absurd h.0
  way_is_apply a b (lam c s) u h = ap (λ x. replace (ways x) zero u s) h.1.0

  ways_are_apply : (a : SimpleType) (t : Lambda) (us : List Lambda) → IsCanonical scope ctx a t → ArgumentsFit scope ctx a us → apply_ways (ways a) t us ≡ apply_each t us
  ways_are_apply a t [] h f = refl
  ways_are_apply (base n) t (u ∷ us) h f = absurd f
  ways_are_apply (arrow a b) t (u ∷ us) h f =
      ap (λ x. apply_ways (ways b) x us) (way_is_apply a b t u h)
      ∙ ways_are_apply b (apply t u) us (canonical-apply scope ctx a b t u h f.0) f.1

-- the variable at the head
pub replace-head : (scope : Scope) (front ctx : List SimpleType) (a : SimpleType) (r : Lambda) (us : List Lambda) → IsCanonical scope ctx a r → ArgumentsFit scope (front ++ a ∷ ctx) a us → let k = length front in replace (ways a) k r (applied (bound k) us) ≡ apply_each (lift_by k 0 r) (map (replace (ways a) k r) us)
replace-head scope front ctx a r us h f =
    replace-applied (ways a) (length front) r (bound (length front)) us
    ∙ ap₂ (λ ws t. apply_ways ws t (map (replace (ways a) (length front) r) us)) (ways_same (length front) (ways a)) (put_same (length front) r)
    ∙ ways_are_apply scope (front ++ ctx) a (lift_by (length front) 0 r) (map (replace (ways a) (length front) r) us) (lift_front scope front ctx a r h) (map_fits scope ctx a r h front a us f)

-- another variable is no head that takes its arguments in ways
ways_other : {W : Type 0} (k j : ℕ) (ws : List W) → j ≢ k → ways_at k j ws ≡ []
ways_other zero zero ws n = absurd (n refl)
ways_other zero (suc j) ws n = refl
ways_other (suc k) zero ws n = refl
ways_other (suc k) (suc j) ws n = ways_other k j ws (λ e. n (ap suc e))

-- another variable at the head
pub replace-other_head : (a : SimpleType) (k j : ℕ) (r : Lambda) (us : List Lambda) → j ≢ k → replace (ways a) k r (applied (bound j) us) ≡ applied (put k r j) (map (replace (ways a) k r) us)
replace-other_head a k j r us n =
    replace-applied (ways a) k r (bound j) us
    ∙ ap (λ ws. apply_ways ws (put k r j) (map (replace (ways a) k r) us)) (ways_other k j (ways a) n)
    ∙ apply_ways_none (put k r j) (map (replace (ways a) k r) us)
