-- A canonical term's arguments are smaller.
use Rattle.std.specs.Prelude.{◌≡◌, ℕ, suc, ◌+◌, ◌≤◌, List, [], ◌∷◌}
use Rattle.std.proofs.Common.{arith}
use Rattle.stt_core.specs.SimpleType.{SimpleType}
use Rattle.stt_core.specs.Lambda.{Lambda, bound, constant, lam, app, lambdas, applied, node_count}
use denote.Param.Weighed.{most}

-- how many nodes a list of terms has, and how many terms
abbrev pub node_counts : List Lambda → ℕ
node_counts [] = 0
node_counts (t ∷ ts) = suc (node_count t + node_counts ts)

pub node_count-applied : (t : Lambda) (us : List Lambda) → node_count (applied t us) ≡ node_count t + node_counts us
node_count-applied t [] = omega arith
node_count-applied t (u ∷ us) = omega (arith, node_count-applied (app t u) us)

node_count-lambdas : (as' : List SimpleType) (t : Lambda) → node_count t ≤ node_count (lambdas as' t)
node_count-lambdas [] t = omega arith
node_count-lambdas (a ∷ as') t = omega (arith, node_count-lambdas as' t)

node_count_pos : (t : Lambda) → 1 ≤ node_count t
node_count_pos (bound k) = omega arith
node_count_pos (constant c) = omega arith
node_count_pos (lam a s) = omega arith
node_count_pos (app s u) = omega arith

pub nf_falls : (as' : List SimpleType) (t : Lambda) (us : List Lambda) → node_counts us + 1 ≤ node_count (lambdas as' (applied t us))
nf_falls as' t us = omega (arith, node_count-lambdas as' (applied t us), node_count-applied t us, node_count_pos t)

pub nfs_falls : (ts : List Lambda) → most (λ t. node_count t + 1) ts ≤ node_counts ts
nfs_falls [] = omega arith
nfs_falls (t ∷ ts) = omega (arith, nfs_falls ts)
