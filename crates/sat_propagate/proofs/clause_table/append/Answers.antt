use Rattle.std.proofs.Common.{take}
use Rattle.sat_propagate.proofs.clause_table.append.Goals as goal

pub returns-in_err-of-clause-longer : goal.returns-in_err-of-clause-longer
returns-in_err-of-clause-longer c = (take c.loop-literal.literal-index c.args.clause.now, c.loop-literal.invariant)
