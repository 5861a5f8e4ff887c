-- What occurs in binders over a head with its arguments.
use Rattle.std.proofs.Common.{◌≡◌, ℕ, zero, suc, ◌+◌, ◌-◌, ◌<◌, ◌≤◌, max, min, length, List, [], ◌∷◌, ◌++◌, inl, inr, Some, slice_get, take, IsTrue, Bool, ◌↔◌, refl, ap, sym, subst, ◌∙◌, arith}
use Rattle.std.proofs.Math.Nat.{max-le}
use Rattle.stt_core.specs.SimpleType.{SimpleType}
use Rattle.stt_core.specs.Lambda.{Constant, Lambda, bound, constant, lam, app, lambdas, applied, node_count}
use Rattle.stt_core.specs.Internal.Sizes.{node_counts, node_count-applied}
use Rattle.stt_core.specs.Occurrence.{Occurs, IsFree, IsClosed}
use Rattle.stt_core.specs.Internal.Missing.{missing_binders}
use Rattle.stt_core.proofs.CanonicalTypes.{applied-more}
use Rattle.stt_core.proofs.ListLaws.{take_got}
use Rattle.stt_core.proofs.SpineLaws.{IsAtom}

-- HOW MANY NODES

counts-more : (us : List Lambda) (i : ℕ) (u : Lambda) → slice_get us i ≡ Some u → node_counts (take (i + 1) us) ≡ node_counts (take i us) + suc (node_count u)
counts-more us i u g = ap node_counts (take_got us i u g) ∙ go (take i us) u
  where
    go : (vs : List Lambda) (v : Lambda) → node_counts (vs ++ v ∷ []) ≡ node_counts vs + suc (node_count v)
    go [] v = omega arith
    go (w ∷ vs) v = omega (arith, go vs v)

node_count-atom : (h : Lambda) → IsAtom h → node_count h ≡ 1
node_count-atom (bound k) o = refl
node_count-atom (constant c) o = refl
node_count-atom (lam a s) o = absurd o
node_count-atom (app s u) o = absurd o

node_count-lambdas : (bs : List SimpleType) (t : Lambda) → node_count (lambdas bs t) ≡ length bs + node_count t
node_count-lambdas [] t = omega arith
node_count-lambdas (b ∷ bs) t = omega (arith, node_count-lambdas bs t)

-- one argument more is counted, up to a greatest number
pub counted_more : (us : List Lambda) (i n greatest : ℕ) (u : Lambda) (sum size more : ℕ) → slice_get us i ≡ Some u → sum ≡ min (n + node_counts (take i us)) greatest → size ≡ min (node_count u) greatest → more ≡ min (min (sum + 1) greatest + size) greatest → more ≡ min (n + node_counts (take (i + 1) us)) greatest
counted_more us i n greatest u sum size more g e s m = omega (arith, counts-more us i u g, e, s, m)

pub counted_whole : (bs : List SimpleType) (h : Lambda) (us vs : List Lambda) (whole : Lambda) (greatest sum : ℕ) → IsAtom h → sum ≡ min (length bs + 1 + node_counts vs) greatest → vs ≡ us → lambdas bs (applied h us) ≡ whole → sum ≡ min (node_count whole) greatest
counted_whole bs h us vs whole greatest sum o e v w =
    e
    ∙ ap (λ xs. min (length bs + 1 + node_counts xs) greatest) v
    ∙ ap (λ n. min n greatest) (omega (arith, ap node_count w, node_count-lambdas bs (applied h us), node_count-applied h us, node_count-atom h o))

-- HOW MANY BINDERS ARE MISSING

missing_binders-lambdas : (bs : List SimpleType) (t : Lambda) → missing_binders (lambdas bs t) ≡ missing_binders t - length bs
missing_binders-lambdas [] t = omega arith
missing_binders-lambdas (b ∷ bs) t = omega (arith, missing_binders-lambdas bs t)

pub missing_more : (h : Lambda) (us : List Lambda) (i : ℕ) (u : Lambda) (m n more : ℕ) → slice_get us i ≡ Some u → m ≡ missing_binders (applied h (take i us)) → n ≡ missing_binders u → more ≡ max m n → more ≡ missing_binders (applied h (take (i + 1) us))
missing_more h us i u m n more g e f q =
    q
    ∙ ap (λ x. max x n) e
    ∙ ap (max (missing_binders (applied h (take i us)))) f
    ∙ sym (ap (λ vs. missing_binders (applied h vs)) (take_got us i u g) ∙ ap missing_binders (applied-more h (take i us) u))

pub missing_whole : (bs : List SimpleType) (h : Lambda) (us vs : List Lambda) (whole : Lambda) (m n : ℕ) → m ≡ missing_binders (applied h vs) → n ≡ m - length bs → vs ≡ us → lambdas bs (applied h us) ≡ whole → n ≡ missing_binders whole
missing_whole bs h us vs whole m n e q v w =
    q ∙ ap (λ x. x - length bs) (e ∙ ap (λ xs. missing_binders (applied h xs)) v) ∙ sym (missing_binders-lambdas bs (applied h us)) ∙ ap missing_binders w

free_below : (t : Lambda) (k : ℕ) → IsFree k t → k < missing_binders t
free_below (bound j) k f = omega (arith, f)
free_below (constant c) k f = absurd f
free_below (lam a s) k f = omega (arith, free_below s (suc k) f)
free_below (app s u) k (inl f) = omega (arith, free_below s k f)
free_below (app s u) k (inr f) = omega (arith, free_below u k f)

missing_least : (t : Lambda) (n : ℕ) → ((k : ℕ) → IsFree k t → k < n) → missing_binders t ≤ n
missing_least (bound j) n h = h j refl
missing_least (constant c) n h = omega arith
missing_least (lam a s) n h = omega (arith, missing_least s (suc n) below)
  where
    below : (k : ℕ) → IsFree k s → k < suc n
    below zero f = omega arith
    below (suc k) f = omega (arith, h k f)
missing_least (app s u) n h = max-le (missing_least s n (λ k f. h k (inl f))) (missing_least u n (λ k f. h k (inr f)))

pub closed_tells : (t : Lambda) (m : ℕ) (r : Bool) → m ≡ missing_binders t → (IsTrue r ↔ m ≡ 0) → IsTrue r ↔ IsClosed t
closed_tells t m r e d = (
  λ o k f. absurd (omega (arith, free_below t k f, e, d.0 o)),
  λ closed. d.1 (omega (arith, missing_least t 0 (λ k f. absurd (closed k f)), e)),
)

-- WHICH CONSTANTS OCCUR

Occurs-lambdas : (c : Constant) (bs : List SimpleType) (t : Lambda) → Occurs c (lambdas bs t) ≡ Occurs c t
Occurs-lambdas c [] t = refl
Occurs-lambdas c (b ∷ bs) t = Occurs-lambdas c bs t

Occurs-applied_head : (c : Constant) (t : Lambda) (us : List Lambda) → Occurs c t → Occurs c (applied t us)
Occurs-applied_head c t [] o = o
Occurs-applied_head c t (u ∷ us) o = Occurs-applied_head c (app t u) us (inl o)

Occurs-applied_argument : (c : Constant) (t : Lambda) (us : List Lambda) (i : ℕ) (u : Lambda) → slice_get us i ≡ Some u → Occurs c u → Occurs c (applied t us)
Occurs-applied_argument c t [] i u g o = cc
Occurs-applied_argument c t (v ∷ us) zero u g o =
    let e : v ≡ u = cc in Occurs-applied_head c (app t v) us (inr (subst (Occurs c) (sym e) o))
Occurs-applied_argument c t (v ∷ us) (suc i) u g o = Occurs-applied_argument c (app t v) us i u g o

pub occurs_in_head : (c : Constant) (bs : List SimpleType) (h : Lambda) (us : List Lambda) (whole : Lambda) → lambdas bs (applied h us) ≡ whole → Occurs c h → Occurs c whole
occurs_in_head c bs h us whole w o =
    subst (Occurs c) w (subst (λ T. T) (sym (Occurs-lambdas c bs (applied h us))) (Occurs-applied_head c h us o))

pub occurs_in_argument : (c : Constant) (bs : List SimpleType) (h : Lambda) (us : List Lambda) (whole : Lambda) (i : ℕ) (u : Lambda) → lambdas bs (applied h us) ≡ whole → slice_get us i ≡ Some u → Occurs c u → Occurs c whole
occurs_in_argument c bs h us whole i u w g o =
    subst (Occurs c) w (subst (λ T. T) (sym (Occurs-lambdas c bs (applied h us))) (Occurs-applied_argument c h us i u g o))

pub occurs_in_neither : (c : Constant) (h : Lambda) (us : List Lambda) (i : ℕ) (u : Lambda) → slice_get us i ≡ Some u → (Occurs c (applied h (take i us)) → ⊥) → (Occurs c u → ⊥) → Occurs c (applied h (take (i + 1) us)) → ⊥
occurs_in_neither c h us i u g n m o = go (subst (Occurs c) (ap (applied h) (take_got us i u g) ∙ applied-more h (take i us) u) o)
  where
    go : Occurs c (app (applied h (take i us)) u) → ⊥
    go (inl x) = n x
    go (inr x) = m x

pub occurs_nowhere : (c : Constant) (bs : List SimpleType) (h : Lambda) (us vs : List Lambda) (whole : Lambda) → lambdas bs (applied h us) ≡ whole → vs ≡ us → (Occurs c (applied h vs) → ⊥) → Occurs c whole → ⊥
occurs_nowhere c bs h us vs whole w v n o =
    n (subst (λ xs. Occurs c (applied h xs)) (sym v) (subst (λ T. T) (Occurs-lambdas c bs (applied h us)) (subst (Occurs c) (sym w) o)))
