use Rattle.std.proofs.Common.{◌≡◌, map, take}
use Rattle.sat_base.specs.Literal.{negated}
use Rattle.tableau_rebuild.proofs.literals.negations.Given as goal

abbrev pub invariant-loop-i : goal.invariant-loop-i
invariant-loop-i l = l.clause ≡ map negated (take l.i l.literals)
