-- Terms that don't look at the outer part of their context.
use Rattle.std.proofs.Common.{◌≡◌, ℕ, zero, suc, ◌<◌, ◌≤◌, List, [], ◌∷◌, ◌++◌, length, slice_get, IsTrue, ◌↔◌, nat_eq, inl, inr, refl, sym, ◌∙◌, arith, eq-eqb}
use Rattle.std.proofs.Math.Nat.{max-le}
use Rattle.std.proofs.lemmas.Bool.{eqb-true}
use Rattle.stt_core.specs.SimpleType.{SimpleType, base, arrow}
use Rattle.stt_core.specs.Lambda.{Lambda, bound, constant, lam, app}
use Rattle.stt_core.specs.Typing.{Scope}
use Rattle.stt_core.specs.Canonical.{IsFrom, IsCanonical, IsNeutral}
use Rattle.stt_core.specs.Internal.Missing.{missing_binders}
use Rattle.stt_core.specs.Occurrence.{IsFree, IsClosed}
use Rattle.stt_core.proofs.OccurrenceLaws.{closed_tells}

-- a term is closed where no binder is missing
pub closed_is : (t : Lambda) (m : ℕ) → m ≡ missing_binders t → IsTrue (nat_eq m 0) ↔ IsClosed t
closed_is t m e = closed_tells t m (nat_eq m 0) e (λ h. eqb-true m 0 h, λ h. eq-eqb m 0 h)

pub closed_missing : (t : Lambda) → IsClosed t → missing_binders t ≡ 0
closed_missing t c = eqb-true (missing_binders t) 0 ((closed_is t (missing_binders t) refl).1 c)

-- each free variable is below that number, and no lesser one is above all of them
pub free_below : (t : Lambda) (k : ℕ) → IsFree k t → k < missing_binders t
free_below (bound j) k f = omega (arith, f)
free_below (constant c) k f = absurd f
free_below (lam a s) k f = omega (arith, free_below s (suc k) f)
free_below (app s u) k (inl f) = omega (arith, free_below s k f)
free_below (app s u) k (inr f) = omega (arith, free_below u k f)

pub missing_least : (t : Lambda) (n : ℕ) → ((k : ℕ) → IsFree k t → k < n) → missing_binders t ≤ n
missing_least (bound j) n h = h j refl
missing_least (constant c) n h = omega arith
missing_least (lam a s) n h = omega (arith, missing_least s (suc n) below)
  where
    below : (k : ℕ) → IsFree k s → k < suc n
    below zero f = omega arith
    below (suc k) f = omega (arith, h k f)
missing_least (app s u) n h = max-le (missing_least s n (λ k f. h k (inl f))) (missing_least u n (λ k f. h k (inr f)))

get_front : (front ctx other : List SimpleType) (k : ℕ) → k < length front → slice_get (front ++ ctx) k ≡ slice_get (front ++ other) k
get_front [] ctx other k h = absurd (omega arith)
get_front (a ∷ front) ctx other zero h = refl
get_front (a ∷ front) ctx other (suc k) h = get_front front ctx other k (omega arith)

from_each : (c a : SimpleType) (P Q : SimpleType → Type 0) → ((b : SimpleType) → P b → Q b) → IsFrom c a P → IsFrom c a Q
from_each c (base n) P Q f h = h
from_each c (arrow a b) P Q f h = (h.0, f b h.1)

module _ (scope : Scope) (ctx other : List SimpleType) where
  mutual
    -- where the front of the context binds all variables, the rest of it may be another
    pub canonical-front : (front : List SimpleType) (a : SimpleType) (t : Lambda) → missing_binders t ≤ length front → IsCanonical scope (front ++ ctx) a t → IsCanonical scope (front ++ other) a t
    canonical-front front a (bound k) m h = (h.0, sym (get_front front ctx other k (omega arith)) ∙ h.1)
    canonical-front front a (constant c) m h = h
    canonical-front front a (lam c s) m h =
        (h.0, from_each c a _ _ (λ b k. canonical-front (c ∷ front) b s (omega (arith, m)) k) h.1)
    canonical-front front a (app s u) m h =
        (h.0, (h.1.0, neutral-front front (arrow h.1.0 a) s (omega (arith, m)) h.1.1, canonical-front front h.1.0 u (omega (arith, m)) h.1.2))

    pub neutral-front : (front : List SimpleType) (a : SimpleType) (t : Lambda) → missing_binders t ≤ length front → IsNeutral scope (front ++ ctx) a t → IsNeutral scope (front ++ other) a t
    neutral-front front a (bound k) m h = sym (get_front front ctx other k (omega arith)) ∙ h
    neutral-front front a (constant c) m h = h
    neutral-front front a (lam c s) m h = h
    neutral-front front a (app s u) m h =
        (h.0, neutral-front front (arrow h.0 a) s (omega (arith, m)) h.1, canonical-front front h.0 u (omega (arith, m)) h.2)
