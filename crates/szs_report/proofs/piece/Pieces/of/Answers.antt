use Rattle.std.proofs.Common.{rules}
use Rattle.szs_report.proofs.WriteLaws.{padded}
use Rattle.szs_report.proofs.piece.Pieces.of.Goals as goal

pub returns : goal.returns
returns c = search (rules, padded)
