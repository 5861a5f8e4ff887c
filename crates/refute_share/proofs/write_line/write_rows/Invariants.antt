use Rattle.std.proofs.Common.{take}
use Rattle.refute_print.specs.Named.{names_of}
use Rattle.refute_print.specs.Internal.Pieces.{row_line}
use Rattle.outside.specs.Writing.{Took}
use Rattle.refute_share.proofs.Lists.{all_texts}
use Rattle.refute_share.proofs.write_line.write_rows.Given as goal

abbrev pub invariant-loop-i : goal.invariant-loop-i
invariant-loop-i g l =
    let sink = g.S.Sink in
    Took sink.tells sink.written sink.faults l.fn.sink l.sink (all_texts (λ i x. row_line (names_of l.sig.bases l.sig.consts) i x) 0 (take l.i l.rows))
