use Rattle.std.proofs.Common.{◌≡◌, take}
use Rattle.tableau_calculus.proofs.lit.Lits.try_clone.Given as goal

abbrev pub invariant-loop-i : goal.invariant-loop-i
invariant-loop-i l = l.lits ≡ take l.i l.self
