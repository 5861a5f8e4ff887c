use Rattle.std.proofs.Common.{◌≡◌, drop}
use Rattle.instantiate.specs.Internal.PartialSizes.{partial_node_count, partial_node_counts}
use Rattle.instantiate.specs.Internal.Holes.{base_among}
use Rattle.instantiate.proofs.partial.+hole_base.Given as goal

abbrev pub decreases-Partial::hole_base : goal.decreases-Partial::hole_base
decreases-Partial::hole_base l = partial_node_count l.self.now

abbrev pub decreases-Partials::hole_base : goal.decreases-Partials::hole_base
decreases-Partials::hole_base l = partial_node_counts l.self.now

-- the first hole is among the partial terms that are left
abbrev pub invariant-Partials::hole_base-loop-i : goal.invariant-Partials::hole_base-loop-i
invariant-Partials::hole_base-loop-i l = base_among (drop l.i l.self) ≡ base_among l.self
