use Rattle.std.proofs.Common.{◌≡◌, [], map, take}
use Rattle.stt_core.specs.ScopeView.{the_scope}
use Rattle.tableau_calculus.specs.Witnesses.{IsTable}
use Rattle.stt_tableau.proofs.accepts.check_rows.Given as goal

abbrev pub invariant-loop-i : goal.invariant-loop-i
invariant-loop-i l = (l.types ≡ map (λ r. r.type) (take l.i l.rows)) × IsTable (the_scope l.sig []) (take l.i l.rows)
