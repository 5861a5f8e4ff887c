use Rattle.std.proofs.Common.{arith}
use Rattle.sat_propagate.proofs.InsertLaws.{right_lowered}
use Rattle.sat_propagate.proofs.propagator.Propagator.process_from.Goals as goal

pub returns-then-place-self-clause-right : goal.returns-then-place-self-clause-right
returns-then-place-self-clause-right c =
    right_lowered c.args.self.now.trail c.args.self.now.processed c.args.place c.args.self.now.clauses.items c.args.self.now.lists (omega (arith, c.if-place-self.true)) c.requires.started c.requires.right
