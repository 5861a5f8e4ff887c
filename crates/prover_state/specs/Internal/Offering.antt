-- What is offered to holes, by numbers.
use Rattle.std.specs.Prelude.{◌≡◌, ◌+◌, ℕ, List, map, filter}
use Rattle.stt_core.specs.SimpleType.{SimpleType, base}
use Rattle.stt_core.specs.Typing.{Scope}
use Rattle.instantiate.specs.Listing.{Listing, ids_of}
use Rattle.search_spec.specs.Heads.{HeadOffers, places_to, bases_from, is_offered, is_offered_base}

-- the base types other than that of formulas that are offered, where so many are declared
abbrev pub offered_among : HeadOffers → ℕ → List SimpleType
offered_among offers declared = filter (is_offered_base offers) (bases_from 1 (declared + 1))

-- the numbers are those of the names that are offered, by their target types, and of the base types
pub record ListsOffers (offers : HeadOffers) (listed : List Listing) (numbers : List ℕ) (scope : Scope) : Type 0 where
  pub names : (n : ℕ) → ids_of (base n) listed ≡ filter (is_offered offers.names) (places_to n 0 scope.names)
  pub bases : map base numbers ≡ offered_among offers scope.bases
