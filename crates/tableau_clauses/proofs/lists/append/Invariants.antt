use Rattle.std.proofs.Common.{◌≡◌, ◌++◌, take}
use Rattle.tableau_clauses.proofs.lists.append.Given as goal

abbrev pub invariant-loop-literal : goal.invariant-loop-literal
invariant-loop-literal l = l.literals.items ≡ l.fn.literals.items ++ take l.literal-index l.list
