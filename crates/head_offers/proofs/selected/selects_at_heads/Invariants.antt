use Rattle.std.proofs.Common.{◌≡◌, take}
use Rattle.search_spec.specs.Offers.{is_selection}
use Rattle.head_offers.specs.Internal.Passing.{any_passes}
use Rattle.head_offers.proofs.selected.selects_at_heads.Given as goal

-- it is told of the first terms
abbrev pub invariant-loop-i : goal.invariant-loop-i
invariant-loop-i l = l.some ≡ any_passes l.bank.terms is_selection (take l.i l.found)
