use Rattle.std.proofs.Common.{◌≡◌, ◌<◌, ◌-◌, ◌||◌, Bool, length, map}
use Rattle.std.specs.List.{All}
use Rattle.stt_core.specs.Lambda.{Constant}
use Rattle.term_bank.specs.Terms.{term_at}
use Rattle.head_offers.specs.Offering.{occurs_among}
use Rattle.head_offers.specs.Internal.Marks.{any_below, reaches}
use Rattle.head_offers.specs.Internal.Passing.{any_passes}
use Rattle.head_offers.proofs.reached.reached.Given as goal

-- what was found and what the marks of earlier terms reach is all
abbrev pub invariant-loop-step : goal.invariant-loop-step
invariant-loop-step l = record {
  count : l.count ≡ length l.bank.terms;
  marks : length l.marks.items ≡ l.count;
  within : All (λ id. id < length l.bank.terms) l.found.items;
  heads : (test : Constant → Bool) → (any_passes l.bank.terms test l.found.items || any_below (reaches l.bank.terms test l.marks.items) (l.count - l.step)) ≡ occurs_among (map (term_at l.bank.terms) l.start) test;
}
