use Rattle.std.proofs.Common.{◌+◌, ◌*◌, take}
use Rattle.stt_core.specs.Lambda.{node_count}
use Rattle.stt_core.specs.Internal.Sizes.{node_counts}
use Rattle.refute_print.specs.Named.{names_of}
use Rattle.refute_print.specs.Internal.Pieces.{argument_text}
use Rattle.outside.specs.Writing.{Took}
use Rattle.refute_share.proofs.Lists.{all_texts}
use Rattle.refute_share.proofs.write_term.+term.Given as goal

abbrev pub decreases-write_term : goal.decreases-write_term
decreases-write_term g l = node_count l.nf.now * 4

abbrev pub decreases-write_applied : goal.decreases-write_applied
decreases-write_applied g l = node_counts l.args.now * 4 + 3

abbrev pub decreases-write_arguments : goal.decreases-write_arguments
decreases-write_arguments g l = node_counts l.args.now * 4 + 2

abbrev pub decreases-write_argument : goal.decreases-write_argument
decreases-write_argument g l = node_count l.arg.now * 4 + 1

abbrev pub invariant-write_arguments-loop-i : goal.invariant-write_arguments-loop-i
invariant-write_arguments-loop-i g l =
    let sink = g.S.Sink in
    Took sink.tells sink.written sink.faults l.fn.sink l.sink (all_texts (λ k u. argument_text (names_of l.sig.bases l.sig.consts) u) 0 (take l.i l.args))
