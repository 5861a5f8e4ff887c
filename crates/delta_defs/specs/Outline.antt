-- Definitions without their terms: how many nodes the terms have, and which names are involved.
use Rattle.std.specs.Prelude.{◌≡◌, ℕ, suc, ◌+◌, nat_eq, nat_le, Bool, not, ◌&&◌, List, [], ◌∷◌, Option, Some, None, unwrap_or, if◌then◌else◌, map}
use Rattle.std.specs.Ordering.{nat_cmp}
use Rattle.std.specs.BTreeMap.{BTreeMap, get}
use Rattle.std.specs.BTreeSet.{contains}
use Rattle.stt_core.specs.Lambda.{Constant, name, witness, falsity, negation, implication, all, equality, choice, description, Lambda, bound, constant, lam, app, node_count}
use Rattle.delta_defs.specs.Definitions.{Definition, mentions}
use Rattle.delta_defs.specs.Unfolding.{node_limit}
use Rattle.delta_defs.specs.Internal.Finding.{HasInvolved}
use Rattle.delta_defs.specs.declared.outline.Outline.{Outline}

-- the nodes of the term of a name's first definition
abbrev pub first_nodes : List Definition → ℕ → Option ℕ
first_nodes [] k = None
first_nodes (d ∷ ds) k = if nat_eq d.place k then Some (node_count d.term) else first_nodes ds k

-- the nodes of what a constant stands for
abbrev pub nodes_of : BTreeMap ℕ ℕ → Constant → ℕ
nodes_of nodes (name k) = unwrap_or (get nat_cmp nodes k) 1
nodes_of nodes (witness k) = 1
nodes_of nodes falsity = 1
nodes_of nodes negation = 1
nodes_of nodes implication = 1
nodes_of nodes (all a) = 1
nodes_of nodes (equality a) = 1
nodes_of nodes (choice a) = 1
nodes_of nodes (description a) = 1

-- the nodes of a term in which names have so many
abbrev pub nodes_in : BTreeMap ℕ ℕ → Lambda → ℕ
nodes_in nodes (bound k) = 1
nodes_in nodes (constant c) = nodes_of nodes c
nodes_in nodes (lam a s) = suc (nodes_in nodes s)
nodes_in nodes (app s u) = suc (nodes_in nodes s + nodes_in nodes u)

abbrev pub HasNodes : BTreeMap ℕ ℕ → List Definition → Type 0
HasNodes nodes ds = (k : ℕ) → get nat_cmp nodes k ≡ first_nodes ds k

-- it has the number of nodes of each defined name, and the names that are involved
pub record IsOutline (o : Outline) (ds : List Definition) : Type 0 where
  pub nodes_are : HasNodes o.nodes ds
  pub involved_are : HasInvolved o.involved ds

-- whether a definition may follow, told without the terms of the earlier ones
abbrev pub may_follow_outline : Outline → ℕ → Lambda → Bool
may_follow_outline o place t =
    nat_le (nodes_in o.nodes t) node_limit && (not (contains nat_cmp o.involved place) && not (mentions (name place) t))

-- it is the outline of the definitions, and the names are theirs in order
pub record IsNamedOutline (o : Outline) (names : List ℕ) (ds : List Definition) : Type 0 where
  pub outline : IsOutline o ds
  pub names_are : names ≡ map (λ d. d.place) ds
