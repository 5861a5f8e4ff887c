use Rattle.tableau_rules.proofs.SpineLaws.{DiffersTo}
use Rattle.tableau_rules.proofs.spine.differences.Given as goal

abbrev pub invariant-loop-i : goal.invariant-loop-i
invariant-loop-i l = DiffersTo l.fn.bank l.bank l.arguments.left l.arguments.right l.i l.drafts
