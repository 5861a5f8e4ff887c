use Rattle.std.proofs.Common.{nat_eq, arith}
use Rattle.stt_core.proofs.OccurrenceLaws.{closed_tells}
use Rattle.stt_core.proofs.measure.closed.Goals as goal

pub returns : goal.returns
returns c = closed_tells c.args.nf.now c.missing_around.result (nat_eq c.missing_around.result 0) c.missing_around.ensures (grind arith)
