use Rattle.std.proofs.Common.{take}
use Rattle.tableau_calculus.specs.Accepted.{AreChildren}
use Rattle.stt_tableau.proofs.children.are_children.Given as goal

abbrev pub invariant-loop-i : goal.invariant-loop-i
invariant-loop-i l = AreChildren (take l.count l.lines) l.branch (take l.i l.alternatives) (take l.i l.children)
