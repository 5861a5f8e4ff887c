use Rattle.std.proofs.Common.{take}
use Rattle.refute_print.specs.Named.{names_of}
use Rattle.refute_print.specs.Internal.Pieces.{lambda_piece}
use Rattle.outside.specs.Writing.{Took}
use Rattle.refute_share.proofs.Lists.{all_texts}
use Rattle.refute_share.proofs.write_term.write_binders.Given as goal

abbrev pub invariant-loop-i : goal.invariant-loop-i
invariant-loop-i g l =
    let sink = g.S.Sink in
    Took sink.tells sink.written sink.faults l.fn.sink l.sink (all_texts (λ k a. lambda_piece (names_of l.sig.bases l.sig.consts) a) 0 (take l.i l.binders))
