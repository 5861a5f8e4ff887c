-- An argument is smaller than the term.
use Rattle.std.proofs.Common.{◌≡◌, ℕ, zero, suc, ◌+◌, ◌<◌, ◌≤◌, length, List, [], ◌∷◌, Some, slice_get, arith, ap}
use Rattle.stt_core.specs.SimpleType.{SimpleType}
use Rattle.stt_core.specs.Lambda.{Lambda, bound, constant, lam, app, lambdas, applied, node_count}
use Rattle.stt_core.specs.Internal.Sizes.{node_counts, node_count-applied, nf_falls}

pub node_count-at : (us : List Lambda) (i : ℕ) (u : Lambda) → slice_get us i ≡ Some u → node_count u < node_counts us
node_count-at [] i u h = cc
node_count-at (v ∷ us) zero u h = let e : v ≡ u = cc in omega (arith, ap node_count e)
node_count-at (v ∷ us) (suc i) u h = omega (arith, node_count-at us i u h)

pub argument_smaller : (as' : List SimpleType) (t : Lambda) (us : List Lambda) (whole : Lambda) → lambdas as' (applied t us) ≡ whole → (i : ℕ) (u : Lambda) → slice_get us i ≡ Some u → node_count u < node_count whole
argument_smaller as' t us whole e i u h = omega (arith, nf_falls as' t us, node_count-at us i u h, ap node_count e)

node_count_pos : (t : Lambda) → 1 ≤ node_count t
node_count_pos (bound k) = omega arith
node_count_pos (constant c) = omega arith
node_count_pos (lam a s) = omega arith
node_count_pos (app s u) = omega arith

-- the binders and the arguments of a term are fewer than its nodes
pub node_count-spine : (bs : List SimpleType) (h : Lambda) (us : List Lambda) (whole : Lambda) → lambdas bs (applied h us) ≡ whole → length bs + node_counts us < node_count whole
node_count-spine bs h us whole e = omega (arith, ap node_count e, go bs (applied h us), node_count-applied h us, node_count_pos h)
  where
    go : (bs : List SimpleType) (t : Lambda) → length bs + node_count t ≤ node_count (lambdas bs t)
    go [] t = omega arith
    go (b ∷ bs) t = omega (arith, go bs t)
