use Rattle.std.proofs.Common.{◌≡◌, drop}
use Rattle.std.specs.Prelude.{fold}
use Rattle.tableau_clauses.specs.Internal.Keys.{joined}
use Rattle.tableau_clauses.proofs.key.number_of.Given as goal

abbrev pub invariant-loop-i : goal.invariant-loop-i
invariant-loop-i l = fold joined l.number (drop l.i l.codes) ≡ fold joined 0 l.codes
