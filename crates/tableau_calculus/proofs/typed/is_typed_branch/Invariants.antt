use Rattle.std.proofs.Common.{take}
use Rattle.stt_core.specs.ScopeView.{the_scope}
use Rattle.tableau_calculus.specs.Literals.{IsLiteral}
use Rattle.tableau_calculus.proofs.ListLaws.{Each}
use Rattle.tableau_calculus.proofs.typed.is_typed_branch.Given as goal

abbrev pub invariant-loop-i : goal.invariant-loop-i
invariant-loop-i l = Each (IsLiteral (the_scope l.sig l.types)) (take l.i l.branch)
