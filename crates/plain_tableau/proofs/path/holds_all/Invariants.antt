use Rattle.std.proofs.Common.{◌≡◌, true, take}
use Rattle.search_spec.specs.Numbered.{numbers}
use Rattle.plain_tableau.specs.Expansion.{has_all}
use Rattle.plain_tableau.proofs.path.holds_all.Given as goal

abbrev pub invariant-loop-i : goal.invariant-loop-i
invariant-loop-i l = has_all numbers l.branch.keys (take l.i l.lits) ≡ true
