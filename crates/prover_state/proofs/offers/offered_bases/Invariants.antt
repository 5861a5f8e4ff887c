use Rattle.std.proofs.Common.{◌≡◌, ◌+◌, ◌-◌, ◌++◌, map}
use Rattle.std.specs.Prelude.{filter}
use Rattle.stt_core.specs.SimpleType.{base}
use Rattle.search_spec.specs.Heads.{bases_from, is_offered_base}
use Rattle.head_offers.specs.Offering.{the_offers}
use Rattle.prover_state.specs.Internal.Offering.{offered_among}
use Rattle.prover_state.proofs.offers.offered_bases.Given as goal

-- with what is left that is offered they are all
abbrev pub invariant-loop-i : goal.invariant-loop-i
invariant-loop-i l =
    map base l.numbers.items ++ filter (is_offered_base (the_offers l.offers)) (bases_from (l.i + 1) (l.declared + 1 - l.i)) ≡ offered_among (the_offers l.offers) l.declared
