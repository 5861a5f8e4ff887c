use Rattle.std.proofs.Common.{◌≡◌, false, take}
use Rattle.tableau_calculus.specs.Kinds.{has}
use Rattle.search_spec.specs.Numbered.{numbers}
use Rattle.tableau_clauses.proofs.choice.holds.Given as goal

abbrev pub invariant-loop-i : goal.invariant-loop-i
invariant-loop-i l = has numbers (take l.i l.lits) l.fn.lit ≡ false
