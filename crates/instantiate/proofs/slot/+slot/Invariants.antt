use Rattle.std.proofs.Common.{◌≡◌, option_map, drop}
use Rattle.stt_core.specs.View.{the_head}
use Rattle.stt_core.specs.ContextView.{the_context}
use Rattle.term_bank.specs.Content.{content_scope}
use Rattle.instantiate.specs.Internal.PartialSizes.{partial_node_count, partial_node_counts}
use Rattle.instantiate.specs.Internal.Slots.{slot_of}
use Rattle.instantiate.specs.Internal.Holes.{first_among}
use Rattle.instantiate.proofs.slot.+slot.Given as goal

abbrev pub decreases-slot_in : goal.decreases-slot_in
decreases-slot_in l = partial_node_count l.partial.now

abbrev pub decreases-slot_among : goal.decreases-slot_among
decreases-slot_among l = partial_node_counts l.partials.now

abbrev pub invariant-slot_among-loop-i : goal.invariant-slot_among-loop-i
invariant-slot_among-loop-i l =
    option_map (slot_of (content_scope l.bank) (the_head l.head)) (first_among (the_context l.ctx) (drop l.i l.partials))
    ≡ option_map (slot_of (content_scope l.bank) (the_head l.head)) (first_among (the_context l.ctx) l.partials)
