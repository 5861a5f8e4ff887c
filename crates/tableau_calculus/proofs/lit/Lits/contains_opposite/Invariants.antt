use Rattle.std.proofs.Common.{◌≡◌, take}
use Rattle.tableau_calculus.specs.Literals.{opposite}
use Rattle.tableau_calculus.proofs.ListLaws.{Each}
use Rattle.tableau_calculus.proofs.lit.Lits.contains_opposite.Given as goal

abbrev pub invariant-loop-i : goal.invariant-loop-i
invariant-loop-i l = Each (λ k. k ≡ opposite l.lit → ⊥) (take l.i l.self)
