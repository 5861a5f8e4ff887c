-- The partial terms inside a partial term are smaller.
use Rattle.std.specs.Prelude.{◌≤◌, max}
use Rattle.std.proofs.Common.{arith}
use Rattle.search_spec.specs.Partial.{head}
use Rattle.stt_core.specs.View.{the_head}
use Rattle.instantiate.specs.declared.partial.PartialNode.{PartialNode}
use Rattle.instantiate.specs.declared.partial.PartialNode.TheVariants.{Hole, Lam, App}
use Rattle.instantiate.specs.declared.partial.Partial.TheDeep.{deep-PartialNode}
use Rattle.instantiate.specs.Internal.PartialSizes.{partial_node_count, applications_fall}
use Rattle.instantiate.specs.PartialView.{the_partial_node}

pub partial_node_falls : (n : PartialNode) → max (deep-PartialNode n) 0 ≤ partial_node_count (the_partial_node n)
partial_node_falls (Hole n) = omega arith
partial_node_falls (Lam a p) = omega arith
partial_node_falls (App h ps) = omega (arith, applications_fall (head (the_head h)) ps)
