use Rattle.std.proofs.Common.{take, Contains}
use Rattle.tableau_calculus.proofs.ListLaws.{Each}
use Rattle.tableau_calculus.proofs.lit.Lits.is_within.Given as goal

abbrev pub invariant-loop-i : goal.invariant-loop-i
invariant-loop-i l = Each (Contains l.other) (take l.i l.self)
