-- What contracts say of the order in which variables are proposed, and of the values that they are given.
use Rattle.std.specs.Prelude.{◌≡◌, ◌<◌, ◌+◌, ◌-◌, ◌/◌, ◌^◌, ℕ, Bool, false, List, [], ◌∷◌, if◌then◌else◌, Option, None, map, length, min, slice_index_or, slice_set, nat_lt}
use Rattle.sat_base.specs.declared.literal.Var.{Var}
use Rattle.sat_base.specs.Literal.{mentions_variable}
use Rattle.sat_propagate.specs.Internal.Trail.{TrailState, literals}
use Rattle.sat_propagate.specs.declared.decider.Standing.{Standing}

-- the value that each variable is given where it is decided
abbrev pub wished_signs : List Standing → List Bool
wished_signs standings = map (λ standing. standing.sign) standings

-- the score of each variable
abbrev pub scores : List Standing → List ℕ
scores standings = map (λ standing. standing.score) standings

-- the place of a variable in the heap, if it is there
abbrev pub heap_place : List Standing → Var → Option ℕ
heap_place standings v = slice_index_or (map (λ standing. standing.place) standings) v.0 None

-- values in place of the first ones of a list, as many as there are of both
abbrev pub wished : List Bool → List Bool → List Bool
wished [] values = []
wished (sign ∷ signs) [] = sign ∷ signs
wished (sign ∷ signs) (value ∷ values) = value ∷ wished signs values

-- the gain after a conflict: greater by a twentieth, and the first one again where that is above 2 ^ 56
abbrev pub next_gain : ℕ → ℕ
next_gain gain = if nat_lt (2 ^ 56) (gain + gain / 20) then 65536 else gain + gain / 20

-- the scores where one variable gains so much, at most up to the greatest number of eight bytes
abbrev pub with_gain : List ℕ → Var → ℕ → List ℕ
with_gain ns v gain = slice_set ns v.0 (min (slice_index_or ns v.0 0 + gain) (2 ^ 64 - 1))

-- the scores where each of the variables gains so much
abbrev pub with_gains : List ℕ → List Var → ℕ → List ℕ
with_gains ns [] gain = ns
with_gains ns (v ∷ vs) gain = with_gains (with_gain ns v gain) vs gain

-- the scores divided by 2 ^ 40
abbrev pub scaled_down : List ℕ → List ℕ
scaled_down ns = map (λ n. n / 1099511627776) ns

-- the scores before the variables of a conflict gain: divided where the gain begins again
abbrev pub scores_before : ℕ → List ℕ → List ℕ
scores_before gain ns = if nat_lt (2 ^ 56) (gain + gain / 20) then scaled_down ns else ns

-- the trail knows the variable, which has no value
abbrev pub IsOpenVariable : TrailState → Var → Type 0
IsOpenVariable trail v = (v.0 < length trail.phases) × (mentions_variable (literals trail.steps) v ≡ false)
