use Rattle.std.proofs.Common.{◌≡◌, false, take}
use Rattle.std.specs.List.{list_any}
use Rattle.search_spec.specs.Numbered.{numbers}
use Rattle.plain_tableau.specs.Expansion.{has_all}
use Rattle.plain_tableau.proofs.path.holds_one.Given as goal

abbrev pub invariant-loop-i : goal.invariant-loop-i
invariant-loop-i l = list_any (has_all numbers l.branch.keys) (take l.i l.lists) ≡ false
