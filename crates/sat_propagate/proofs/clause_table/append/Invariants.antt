use Rattle.std.proofs.Common.{◌≡◌, ◌++◌, take}
use Rattle.sat_propagate.proofs.clause_table.append.Given as goal

abbrev pub invariant-loop-literal : goal.invariant-loop-literal
invariant-loop-literal l = l.literals.items ≡ l.fn.literals.items ++ take l.literal-index l.clause
