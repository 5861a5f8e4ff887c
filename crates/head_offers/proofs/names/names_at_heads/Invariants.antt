use Rattle.std.proofs.Common.{◌≡◌, ◌<◌, ℕ, length, map, take}
use Rattle.search_spec.specs.Offers.{is_name}
use Rattle.head_offers.specs.Internal.Marks.{is_flagged}
use Rattle.head_offers.specs.Internal.Passing.{any_passes}
use Rattle.head_offers.proofs.names.names_at_heads.Given as goal

-- the first terms are told of
abbrev pub invariant-loop-i : goal.invariant-loop-i
invariant-loop-i l = record {
  length : length l.flags.items ≡ l.count;
  flags : (k : ℕ) → k < l.count → is_flagged l.flags.items k ≡ any_passes l.bank.terms (is_name k) (take l.i l.found);
}
