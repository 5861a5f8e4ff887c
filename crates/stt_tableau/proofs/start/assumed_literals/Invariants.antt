use Rattle.std.proofs.Common.{◌≡◌, [], map, take}
use Rattle.stt_core.specs.ScopeView.{the_scope}
use Rattle.tableau_calculus.specs.Start.{without_repeats, normal_literal}
use Rattle.stt_tableau.proofs.start.assumed_literals.Given as goal

abbrev pub invariant-loop-i : goal.invariant-loop-i
invariant-loop-i l = l.lits ≡ without_repeats (map (normal_literal (the_scope l.sig [])) (take l.i l.assumed))
