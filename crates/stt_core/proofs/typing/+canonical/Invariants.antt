use Rattle.std.proofs.Common.{◌≡◌, ◌+◌, ◌*◌, ◌-◌, length, take, option_map}
use Rattle.stt_core.specs.Lambda.{node_count, applied}
use Rattle.stt_core.specs.Internal.Sizes.{node_counts}
use Rattle.stt_core.specs.Internal.CanonicalType.{neutral_type}
use Rattle.stt_core.specs.View.{the_type, the_head}
use Rattle.stt_core.specs.ContextView.{the_context, declared_scope}
use Rattle.stt_core.proofs.typing.+canonical.Given as goal

abbrev pub decreases-type_in : goal.decreases-type_in
decreases-type_in l = 4 * node_count l.nf.now

abbrev pub decreases-type_under : goal.decreases-type_under
decreases-type_under l = 4 * node_counts l.args.now + 2 + (length l.binders.now - l.i)

abbrev pub decreases-spine_type : goal.decreases-spine_type
decreases-spine_type l = 4 * node_counts l.args.now + 1

abbrev pub invariant-spine_type-loop-i : goal.invariant-spine_type-loop-i
invariant-spine_type-loop-i l = option_map the_type l.ty ≡ neutral_type (declared_scope l.declared) (the_context l.ctx) (applied (the_head l.head) (take l.i l.args))
