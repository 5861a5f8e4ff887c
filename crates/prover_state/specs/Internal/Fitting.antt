-- Heads that fit a hole, by numbers.
use Rattle.std.specs.Prelude.{◌≡◌, ◌≤◌, ◌<◌, ◌||◌, ℕ, zero, suc, Bool, false, List, [], ◌∷◌, ◌++◌, map, filter, drop, get_or, length, Option, Some, None}
use Rattle.stt_core.specs.SimpleType.{SimpleType, base, formula}
use Rattle.stt_core.specs.Lambda.{Lambda, constant, witness, falsity, negation, implication, all, equality, choice}
use Rattle.stt_core.specs.Typing.{Scope}
use Rattle.tableau_calculus.specs.Each.{Each}
use Rattle.search_spec.specs.Heads.{HeadOffers, places_to, is_offered, given_heads, is_none_given, logical_heads}
use Rattle.search_spec.specs.Partial.{Hole}

-- the variables that fit the hole, where there is one
abbrev pub variables_for : Option Hole → List ℕ
variables_for None = []
variables_for (Some h) = places_to h.base 0 h.context

-- the names that are offered of a base type
abbrev pub names_for : HeadOffers → Scope → ℕ → List ℕ
names_for offers scope n = filter (is_offered offers.names) (places_to n 0 scope.names)

-- whether the choice fits the hole, where other ones don't fit or choices are offered
abbrev pub chooses_for : HeadOffers → Scope → Option Hole → Bool
chooses_for offers scope None = false
chooses_for offers scope (Some h) = offers.choices || is_none_given (given_heads offers scope h)

-- the equalities on base types and the quantifiers over them
abbrev pub over_bases : List SimpleType → List Lambda
over_bases bases = map (λ c. constant (equality c)) bases ++ map (λ c. constant (all c)) bases

-- the logic's own heads of a base type, among them the choice, where these base types are offered
abbrev pub logical_for : List SimpleType → ℕ → List Lambda
logical_for bases zero = constant falsity ∷ constant negation ∷ constant implication ∷ constant (equality formula) ∷ over_bases bases
logical_for bases (suc n) = constant (choice (base (suc n))) ∷ []

-- the heads of a base type behind the variables and the names, with or without the choice
abbrev pub later_heads : HeadOffers → Scope → ℕ → Bool → List Lambda
later_heads offers scope n chooses = map (λ k. constant (witness k)) (places_to n 0 scope.witnesses) ++ logical_heads offers scope n chooses

-- so many of the places are below a number, and the others are not
pub record SplitsAt (n : ℕ) (places : List ℕ) (k : ℕ) : Type 0 where
  pub within : k ≤ length places
  pub behind : Each (λ i. n ≤ i) (drop k places)
  pub before : (i : ℕ) → suc i ≡ k → get_or places i 0 < n
