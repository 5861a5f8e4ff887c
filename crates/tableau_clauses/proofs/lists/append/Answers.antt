use Rattle.std.proofs.Common.{take}
use Rattle.tableau_clauses.proofs.lists.append.Goals as goal

pub returns-in_err-of-clause-longer : goal.returns-in_err-of-clause-longer
returns-in_err-of-clause-longer c = (take c.loop-literal.literal-index c.args.list.now, c.loop-literal.invariant)
