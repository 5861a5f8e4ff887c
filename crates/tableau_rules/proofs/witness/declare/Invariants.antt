use Rattle.tableau_rules.proofs.DeclareLaws.{DeclaresTo}
use Rattle.tableau_rules.proofs.witness.declare.Given as goal

abbrev pub invariant-loop-w : goal.invariant-loop-w
invariant-loop-w l = DeclaresTo l.fn.bank l.bank l.witnesses l.w
