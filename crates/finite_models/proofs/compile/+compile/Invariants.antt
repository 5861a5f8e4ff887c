use Rattle.std.proofs.Common.{◌+◌, ◌*◌, ◌-◌, length, drop}
use Rattle.stt_core.specs.Lambda.{node_count}
use Rattle.stt_core.specs.Internal.Sizes.{node_counts}
use Rattle.finite_models.proofs.compile.+compile.Given as goal

abbrev pub decreases-compile : goal.decreases-compile
decreases-compile l = 4 * node_count l.nf.now

abbrev pub decreases-compile_under : goal.decreases-compile_under
decreases-compile_under l = 4 * node_counts l.args.now + 3 + (length l.binders.now - l.i)

abbrev pub decreases-compile_spine : goal.decreases-compile_spine
decreases-compile_spine l = 4 * node_counts l.args.now + 2

abbrev pub decreases-compile_applied : goal.decreases-compile_applied
decreases-compile_applied l = 4 * node_counts l.args.now + 1

abbrev pub decreases-compile_from : goal.decreases-compile_from
decreases-compile_from l = 4 * node_counts (drop l.i l.args.now)

abbrev pub decreases-compile_truth : goal.decreases-compile_truth
decreases-compile_truth l = 4 * node_count l.nf.now

abbrev pub decreases-compile_negation : goal.decreases-compile_negation
decreases-compile_negation l = 4 * node_counts l.args.now + 1

abbrev pub decreases-compile_implication : goal.decreases-compile_implication
decreases-compile_implication l = 4 * node_counts l.args.now + 1

abbrev pub decreases-compile_equation : goal.decreases-compile_equation
decreases-compile_equation l = 4 * node_counts l.args.now + 1

abbrev pub decreases-compile_every : goal.decreases-compile_every
decreases-compile_every l = 4 * node_counts l.args.now + 1
