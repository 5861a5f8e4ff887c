use Rattle.std.proofs.Common.{◌≡◌, take}
use Rattle.tableau_clauses.proofs.lists.list_of.Given as goal

abbrev pub invariant-loop-literal : goal.invariant-loop-literal
invariant-loop-literal l = l.list ≡ take l.literal-index l.literals
