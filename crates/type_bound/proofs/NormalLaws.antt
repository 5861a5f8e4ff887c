-- Normal forms have no deeper types.
use Rattle.std.proofs.Common.{◌≤◌, ℕ, zero, suc, List, [], ◌∷◌, Option, Some, None, slice_get, arith}
use Rattle.stt_core.specs.SimpleType.{SimpleType, base, arrow}
use Rattle.stt_core.specs.Lambda.{Lambda, bound, constant, lam, app}
use Rattle.stt_core.specs.Typing.{Scope, constant_type}
use Rattle.stt_core.specs.Lift.{lift}
use Rattle.normal_forms.specs.Normal.{Way, eta, later, by_first, ways_at, ways_of, put, replace, apply_by, ways, apply, eta_if, normal_form}
use Rattle.type_bound.specs.Types.{IsShallowType, HasShallowTypes, AreShallowTypes, NormalFormsKeepTypes}
use Rattle.refute_print.specs.Sizes.{nesting}

module _ (limit : ℕ) (scope : Scope) where
  abbrev Keeps : Lambda → Type 0
  Keeps t = HasShallowTypes limit scope t

  lift_keeps : (k : ℕ) (t : Lambda) → Keeps t → Keeps (lift k t)
  lift_keeps k (bound j) h = tt
  lift_keeps k (constant c) h = h
  lift_keeps k (lam a s) h = (h.0, lift_keeps (suc k) s h.1)
  lift_keeps k (app s u) h = (lift_keeps k s h.0, lift_keeps k u h.1)

  put_keeps : (k : ℕ) (r : Lambda) (j : ℕ) → Keeps r → Keeps (put k r j)
  put_keeps zero r zero h = h
  put_keeps zero r (suc j) h = tt
  put_keeps (suc k) r zero h = tt
  put_keeps (suc k) r (suc j) h = lift_keeps zero (put k r j) (put_keeps k r j h)

  -- the ways make no deeper types
  abbrev AreGood : List Way → Type 0
  AreGood [] = Unit {0}
  AreGood (w ∷ ws) = ((s u : Lambda) → Keeps s → Keeps u → Keeps (w s u)) × AreGood ws

  first_keeps : (ws : List Way) (s u : Lambda) → AreGood ws → Keeps s → Keeps u → Keeps (by_first ws s u)
  first_keeps [] s u good h k = (h, k)
  first_keeps (w ∷ ws) s u good h k = good.0 s u h k

  later_good : (ws : List Way) → AreGood ws → AreGood (later ws)
  later_good [] good = tt
  later_good (w ∷ ws) good = good.1

  at_good : (k j : ℕ) (ws : List Way) → AreGood ws → AreGood (ways_at k j ws)
  at_good zero zero ws good = good
  at_good zero (suc j) ws good = tt
  at_good (suc k) zero ws good = tt
  at_good (suc k) (suc j) ws good = at_good k j ws good

  of_good : (ws : List Way) (k : ℕ) (t : Lambda) → AreGood ws → AreGood (ways_of ws k t)
  of_good ws k (bound j) good = at_good k j ws good
  of_good ws k (constant c) good = tt
  of_good ws k (lam a s) good = tt
  of_good ws k (app s u) good = later_good (ways_of ws k s) (of_good ws k s good)

  replace_keeps : (ws : List Way) (k : ℕ) (r t : Lambda) → AreGood ws → Keeps r → Keeps t → Keeps (replace ws k r t)
  replace_keeps ws k r (bound j) good h g = put_keeps k r j h
  replace_keeps ws k r (constant c) good h g = g
  replace_keeps ws k r (lam a s) good h g = (g.0, replace_keeps ws (suc k) r s good h g.1)
  replace_keeps ws k r (app s u) good h g =
      first_keeps (ways_of ws k s) (replace ws k r s) (replace ws k r u) (of_good ws k s good) (replace_keeps ws k r s good h g.0) (replace_keeps ws k r u good h g.1)

  by_keeps : (ws : List Way) → AreGood ws → (s u : Lambda) → Keeps s → Keeps u → Keeps (apply_by ws s u)
  by_keeps ws good (lam a s) u h k = replace_keeps ws zero u s good k h.1
  by_keeps ws good (bound j) u h k = (h, k)
  by_keeps ws good (constant c) u h k = (h, k)
  by_keeps ws good (app s v) u h k = (h, k)

  ways_good : (a : SimpleType) → AreGood (ways a)
  ways_good (base n) = tt
  ways_good (arrow a b) = (by_keeps (ways a) (ways_good a), ways_good b)

  pub apply_keeps : (s u : Lambda) → Keeps s → Keeps u → Keeps (apply s u)
  apply_keeps (lam a s) u h k = replace_keeps (ways a) zero u s (ways_good a) k h.1
  apply_keeps (bound j) u h k = (h, k)
  apply_keeps (constant c) u h k = (h, k)
  apply_keeps (app s v) u h k = (h, k)

  pub eta_keeps : (a : SimpleType) (t : Lambda) → nesting a ≤ limit → Keeps t → Keeps (eta a t)
  eta_keeps (base n) t within h = h
  eta_keeps (arrow a b) t within h =
      let first : nesting a ≤ limit = omega (arith, within) in
      let second : nesting b ≤ limit = omega (arith, within) in
      (first, eta_keeps b (app (lift zero t) (eta a (bound zero))) second (lift_keeps zero t h, eta_keeps a (bound zero) first tt))

  if_keeps : (o : Option SimpleType) (t : Lambda) → IsShallowType limit o → Keeps t → Keeps (eta_if o t)
  if_keeps None t within h = h
  if_keeps (Some a) t within h = eta_keeps a t within h

  at_shallow : (ctx : List SimpleType) (k : ℕ) → AreShallowTypes limit ctx → IsShallowType limit (slice_get ctx k)
  at_shallow [] k h = tt
  at_shallow (a ∷ ctx) zero h = h.0
  at_shallow (a ∷ ctx) (suc k) h = at_shallow ctx k h.1

  pub normal_keeps : (ctx : List SimpleType) (t : Lambda) → AreShallowTypes limit ctx → Keeps t → Keeps (normal_form scope ctx t)
  normal_keeps ctx (bound k) are h = if_keeps (slice_get ctx k) (bound k) (at_shallow ctx k are) tt
  normal_keeps ctx (constant c) are h = if_keeps (constant_type scope c) (constant c) h h
  normal_keeps ctx (lam a s) are h = (h.0, normal_keeps (a ∷ ctx) s (h.0, are) h.1)
  normal_keeps ctx (app s u) are h = apply_keeps (normal_form scope ctx s) (normal_form scope ctx u) (normal_keeps ctx s are h.0) (normal_keeps ctx u are h.1)

pub normal_forms_keep : NormalFormsKeepTypes
normal_forms_keep limit scope ctx t are h = normal_keeps limit scope ctx t are h
