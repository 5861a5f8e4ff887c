use Rattle.std.proofs.Common.{[], take}
use Rattle.stt_core.specs.ScopeView.{the_scope}
use Rattle.tableau_calculus.specs.Accepted.{AreRightLines}
use Rattle.stt_tableau.proofs.accepts.check_lines.Given as goal

abbrev pub invariant-loop-i : goal.invariant-loop-i
invariant-loop-i l = AreRightLines (the_scope l.sig []) l.refutation.witnesses (take l.i l.refutation.lines)
