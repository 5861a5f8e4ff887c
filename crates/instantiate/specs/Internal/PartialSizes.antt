-- The sizes of partial terms.
use Rattle.std.specs.Prelude.{◌≡◌, ℕ, suc, ◌+◌, ◌≤◌, List, [], ◌∷◌}
use Rattle.std.proofs.Common.{arith}
use denote.Param.Weighed.{most}
use Rattle.search_spec.specs.Partial.{Partial, hole, head, function, application}
use Rattle.instantiate.specs.PartialView.{applications}

-- how many nodes a partial term has, and a list of them, with their number
abbrev pub partial_node_count : Partial → ℕ
partial_node_count (hole n) = 1
partial_node_count (head h) = 1
partial_node_count (function a p) = suc (partial_node_count p)
partial_node_count (application p q) = suc (partial_node_count p + partial_node_count q)

abbrev pub partial_node_counts : List Partial → ℕ
partial_node_counts [] = 0
partial_node_counts (p ∷ ps) = suc (partial_node_count p + partial_node_counts ps)

pub node_count-applications :
    (p : Partial) (qs : List Partial) → partial_node_count (applications p qs) ≡ partial_node_count p + partial_node_counts qs
node_count-applications p [] = omega arith
node_count-applications p (q ∷ qs) = omega (arith, node_count-applications (application p q) qs)

node_count_pos : (p : Partial) → 1 ≤ partial_node_count p
node_count_pos (hole n) = omega arith
node_count_pos (head h) = omega arith
node_count_pos (function a p) = omega arith
node_count_pos (application p q) = omega arith

pub applications_fall : (p : Partial) (qs : List Partial) → partial_node_counts qs + 1 ≤ partial_node_count (applications p qs)
applications_fall p qs = omega (arith, node_count-applications p qs, node_count_pos p)

pub partials_fall : (ps : List Partial) → most (λ p. partial_node_count p + 1) ps ≤ partial_node_counts ps
partials_fall [] = omega arith
partials_fall (p ∷ ps) = omega (arith, partials_fall ps)
