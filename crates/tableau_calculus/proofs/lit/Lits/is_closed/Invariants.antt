use Rattle.std.proofs.Common.{take, Contains}
use Rattle.tableau_calculus.specs.Literals.{opposite}
use Rattle.tableau_calculus.proofs.ListLaws.{Each}
use Rattle.tableau_calculus.proofs.lit.Lits.is_closed.Given as goal

abbrev pub invariant-loop-i : goal.invariant-loop-i
invariant-loop-i l = Each (λ k. Contains l.self (opposite k) → ⊥) (take l.i l.self)
