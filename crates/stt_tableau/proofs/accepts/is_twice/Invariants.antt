use Rattle.std.proofs.Common.{◌≡◌, take}
use Rattle.tableau_calculus.proofs.ListLaws.{Each}
use Rattle.stt_tableau.proofs.accepts.is_twice.Given as goal

abbrev pub invariant-loop-j : goal.invariant-loop-j
invariant-loop-j l = Each (λ q. q.predicate ≡ l.row.predicate → ⊥) (take l.j l.rows)
