use Rattle.std.proofs.Common.{◌≡◌, false, take}
use Rattle.std.specs.List.{list_any}
use Rattle.sat_base.specs.Literal.{negated}
use Rattle.tableau_calculus.specs.Kinds.{has}
use Rattle.search_spec.specs.Numbered.{numbers}
use Rattle.tableau_clauses.proofs.choice.is_tautology.Given as goal

abbrev pub invariant-loop-i : goal.invariant-loop-i
invariant-loop-i l = list_any (λ k. has numbers l.clause (negated k)) (take l.i l.clause) ≡ false
