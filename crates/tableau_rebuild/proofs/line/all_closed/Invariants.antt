use Rattle.std.proofs.Common.{◌≡◌, map, take}
use Rattle.tableau_calculus.specs.declared.refutation.Child.TheVariants.{Closed}
use Rattle.tableau_rebuild.proofs.line.all_closed.Given as goal

abbrev pub invariant-loop-i : goal.invariant-loop-i
invariant-loop-i l = l.children ≡ map (λ _. Closed) (take l._i l.alternatives)
