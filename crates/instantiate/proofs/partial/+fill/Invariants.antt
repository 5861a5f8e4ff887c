use Rattle.std.proofs.Common.{◌≡◌, ◌++◌, take, drop, length}
use Rattle.instantiate.specs.Internal.PartialSizes.{partial_node_count, partial_node_counts}
use Rattle.instantiate.specs.Internal.Holes.{filling_all}
use Rattle.instantiate.proofs.partial.+fill.Given as goal

abbrev pub decreases-Partial::fill : goal.decreases-Partial::fill
decreases-Partial::fill l = partial_node_count l.self.now

abbrev pub decreases-Partials::fill : goal.decreases-Partials::fill
decreases-Partials::fill l = partial_node_counts l.self.now

abbrev pub invariant-Partials::fill-loop-i : goal.invariant-Partials::fill-loop-i
invariant-Partials::fill-loop-i l = record {
  count : length l.self-inside.items.items ≡ length l.initial.self-inside.items.items;
  later : drop l.i l.self-inside.items.items ≡ drop l.i l.initial.self-inside.items.items;
  filled : take l.i l.self-inside.items.items ++ (filling_all l.filler (drop l.i l.initial.self-inside.items.items)).0 ≡ (filling_all l.initial.filler l.initial.self-inside.items.items).0;
  left : (filling_all l.filler (drop l.i l.initial.self-inside.items.items)).1 ≡ (filling_all l.initial.filler l.initial.self-inside.items.items).1;
}
