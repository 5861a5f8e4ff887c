-- The heads that fit a hole.
use Rattle.std.specs.Prelude.{ℕ, zero, suc, ◌+◌, ◌++◌, ◌||◌, nat_eq, slice_index_or, Bool, true, false, List, [], ◌∷◌, map, filter, Option, Some, None, if◌then◌else◌}
use Rattle.stt_core.specs.SimpleType.{SimpleType, base, arrow, formula, target}
use Rattle.stt_core.specs.Lambda.{Lambda, bound, constant, name, witness, falsity, negation, implication, all, equality, choice}
use Rattle.stt_core.specs.Typing.{Scope}
use Rattle.search_spec.specs.Partial.{Hole}

-- What is offered to holes beside variables, witnesses, connectives and the equality of formulas: for each name whether it is; for each
-- base type by its number whether its equality and its quantifier are; and whether choices are, where other heads fit.
pub record HeadOffers : Type 0 where
  pub names : List Bool
  pub bases : List Bool
  pub choices : Bool

abbrev pub is_offered : List Bool → ℕ → Bool
is_offered flags k = slice_index_or flags k false

abbrev pub is_offered_base : HeadOffers → SimpleType → Bool
is_offered_base offers (base n) = is_offered offers.bases n
is_offered_base offers (arrow a b) = false

-- the places of the types whose target is this base type; the first of them has this place
abbrev pub places_to : ℕ → ℕ → List SimpleType → List ℕ
places_to n k [] = []
places_to n k (a ∷ types) = if nat_eq (target a) n then k ∷ places_to n (suc k) types else places_to n (suc k) types

-- so many base types, from one on
abbrev pub bases_from : ℕ → ℕ → List SimpleType
bases_from k zero = []
bases_from k (suc n) = base k ∷ bases_from (suc k) n

-- the base types other than that of formulas whose equality and quantifier are offered
abbrev pub offered_bases : HeadOffers → Scope → List SimpleType
offered_bases offers scope = filter (is_offered_base offers) (bases_from 1 (scope.bases + 1))

-- The logic's own heads with this target type: falsity, negation, implication, the equality of formulas, the equality on each base type
-- that is offered and the quantifier over each one, or else the choice, where it is one of them.
abbrev pub logical_heads : HeadOffers → Scope → ℕ → Bool → List Lambda
logical_heads offers scope zero chooses =
    constant falsity ∷ constant negation ∷ constant implication ∷ constant (equality formula) ∷ []
    ++ map (λ c. constant (equality c)) (offered_bases offers scope)
    ++ map (λ c. constant (all c)) (offered_bases offers scope)
logical_heads offers scope (suc n) chooses = if chooses then constant (choice (base (suc n))) ∷ [] else []

-- The variables in scope, innermost first, the names that are offered, in order of declaration, and the witnesses in order, whose target
-- type is the hole's.
abbrev pub given_heads : HeadOffers → Scope → Hole → List Lambda
given_heads offers scope h =
    map bound (places_to h.base 0 h.context)
    ++ map (λ k. constant (name k)) (filter (is_offered offers.names) (places_to h.base 0 scope.names))
    ++ map (λ k. constant (witness k)) (places_to h.base 0 scope.witnesses)

abbrev pub is_none_given : List Lambda → Bool
is_none_given [] = true
is_none_given (t ∷ ts) = false

-- The heads whose target type is the hole's: those that are given, and the logic's own, among them the choice where choices are offered or
-- no head is given.
abbrev pub fitting_heads : HeadOffers → Scope → Hole → List Lambda
fitting_heads offers scope h =
    given_heads offers scope h ++ logical_heads offers scope h.base (offers.choices || is_none_given (given_heads offers scope h))

-- the heads that fit a partial term's first hole
abbrev pub heads_for : HeadOffers → Scope → Option Hole → List Lambda
heads_for offers scope None = []
heads_for offers scope (Some h) = fitting_heads offers scope h
