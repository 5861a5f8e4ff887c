use Rattle.std.proofs.Common.{◌≡◌, ◌<◌, ◌++◌, ℕ, drop, map}
use Rattle.std.specs.Prelude.{filter}
use Rattle.stt_core.specs.SimpleType.{base}
use Rattle.instantiate.specs.Listing.{ids_of}
use Rattle.tableau_calculus.specs.Each.{Each}
use Rattle.search_spec.specs.Heads.{is_offered, places_to}
use Rattle.prover_state.proofs.offers.names_by_target.Given as goal

-- with the places of what is left that is offered they are all
abbrev pub invariant-loop-i : goal.invariant-loop-i
invariant-loop-i l = record {
  below : (n : ℕ) → Each (λ k. k < l.i) (ids_of (base n) l.names);
  all : (n : ℕ) → ids_of (base n) l.names ++ filter (is_offered l.flags) (places_to n l.i (drop l.i (map (λ c. c.type) l.consts))) ≡ filter (is_offered l.flags) (places_to n 0 (map (λ c. c.type) l.consts));
}
