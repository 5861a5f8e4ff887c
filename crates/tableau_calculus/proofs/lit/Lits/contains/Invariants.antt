use Rattle.std.proofs.Common.{◌≡◌, take}
use Rattle.tableau_calculus.proofs.ListLaws.{Each}
use Rattle.tableau_calculus.proofs.lit.Lits.contains.Given as goal

abbrev pub invariant-loop-i : goal.invariant-loop-i
invariant-loop-i l = Each (λ k. k ≡ l.lit → ⊥) (take l.i l.self)
