use Rattle.std.proofs.Common.{arith}
use Rattle.outside.proofs.Writes.{took_none}
use Rattle.szs_report.specs.Internal.Pieces.{piece_bytes}
use Rattle.szs_report.proofs.WriteLaws.{read_there, took_up_to, stopped_at}
use Rattle.szs_report.proofs.piece.write_each.Goals as goal

pub loop-piece-init : goal.loop-piece-init
loop-piece-init g c = took_none c.args.out.now

pub loop-piece-preserved : goal.loop-piece-preserved
loop-piece-preserved g c = took_up_to piece_bytes c.args.pieces.now c.loop-piece.piece-index c.piece-item.result (read_there c.args.pieces.now c.loop-piece.piece-index c.piece-item.result (omega arith) c.piece-item.is) c.loop-piece.invariant c.in-Ok.ensures

pub returns-in-Err : goal.returns-in-Err
returns-in-Err g c = stopped_at piece_bytes c.args.pieces.now c.loop-piece.piece-index c.piece-item.result (read_there c.args.pieces.now c.loop-piece.piece-index c.piece-item.result (omega arith) c.piece-item.is) c.loop-piece.invariant c.in-Err.ensures
