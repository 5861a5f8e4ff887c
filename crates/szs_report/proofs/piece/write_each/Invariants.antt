use Rattle.std.proofs.Common.{take}
use Rattle.std.specs.List.{flat_map}
use Rattle.outside.specs.Writing.{Took}
use Rattle.szs_report.specs.Internal.Pieces.{piece_bytes}
use Rattle.szs_report.proofs.piece.write_each.Given as goal

abbrev pub invariant-loop-piece : goal.invariant-loop-piece
invariant-loop-piece g l =
    let sink = g.S.Sink in
    Took sink.tells sink.written sink.faults l.fn.out l.out (flat_map piece_bytes (take l.piece-index l.pieces))
