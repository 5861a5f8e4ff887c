-- A closed term is one in which no variable is free.
use Rattle.std.specs.Prelude.{◌≡◌, ◌<◌, ◌&&◌, ℕ, zero, suc, Bool, true, refl}
use Rattle.std.proofs.Common.{arith, ap₂, inl, inr}
use Rattle.std.proofs.lemmas.Bool.{ltb-true, lt-ltb, and_parts}
use Rattle.stt_core.specs.Lambda.{Lambda, bound, constant, lam, app}
use Rattle.stt_core.specs.Occurrence.{IsFree, IsClosed}
use Rattle.search_spec.specs.Closed.{is_bound_by, is_closed}

bound_below : (n : ℕ) (t : Lambda) → is_bound_by n t ≡ true → (k : ℕ) → IsFree k t → k < n
bound_below n (bound j) e k h = let l = ltb-true j n e in omega (arith, l, h)
bound_below n (constant c) e k h = absurd h
bound_below n (lam a s) e k h = let l = bound_below (suc n) s e (suc k) h in omega (arith, l)
bound_below n (app s u) e k (inl h) = bound_below n s (and_parts _ _ e).0 k h
bound_below n (app s u) e k (inr h) = bound_below n u (and_parts _ _ e).1 k h

pub both_true : (x y : Bool) → x ≡ true → y ≡ true → (x && y) ≡ true
both_true x y e f = ap₂ (λ p q. p && q) e f

below_bound : (n : ℕ) (t : Lambda) → ((k : ℕ) → IsFree k t → k < n) → is_bound_by n t ≡ true
below_bound n (bound j) h = lt-ltb j n (h j refl)
below_bound n (constant c) h = refl
below_bound n (lam a s) h = below_bound (suc n) s under
  where
    under : (k : ℕ) → IsFree k s → k < suc n
    under zero f = omega arith
    under (suc k) f = let l = h k f in omega (arith, l)
below_bound n (app s u) h = both_true _ _ (below_bound n s (λ k f. h k (inl f))) (below_bound n u (λ k f. h k (inr f)))

none_below : {k : ℕ} → k < 0 → ⊥
none_below l = omega (arith, l)

pub closed_is : (t : Lambda) → is_closed t ≡ true → IsClosed t
closed_is t e = λ k h. none_below (bound_below 0 t e k h)

pub is_closed-of : (t : Lambda) → IsClosed t → is_closed t ≡ true
is_closed-of t h = below_bound 0 t (λ k f. absurd (h k f))
