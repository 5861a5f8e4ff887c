use Rattle.std.proofs.Common.{◌≡◌, ◌++◌, take, IsTrue}
use Rattle.std.specs.List.{flat_map}
use Rattle.outside.proofs.writing.write_pieces.Given as goal

abbrev pub invariant-loop-piece : goal.invariant-loop-piece
invariant-loop-piece g l =
    let sink = g.S.Sink in
    record {
      front : IsTrue (sink.tells l.fn.sink) → sink.written l.sink ≡ sink.written l.fn.sink ++ flat_map (λ piece. piece.now) (take l.piece-index l.pieces);
      quiet : sink.faults l.sink ≡ sink.faults l.fn.sink;
      telling : IsTrue (sink.tells l.fn.sink) → IsTrue (sink.tells l.sink);
    }
