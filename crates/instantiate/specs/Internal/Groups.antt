-- Terms in groups by their types.
use Rattle.std.specs.Prelude.{◌≡◌, ℕ, suc, List, [], ◌∷◌, ◌++◌, if◌then◌else◌}
use Rattle.stt_core.specs.SimpleType.{SimpleType, same_type}
use Rattle.instantiate.specs.Listing.{Listing, ids_of}

-- a type with its terms
abbrev pub Group : Type 0
Group = SimpleType × List ℕ

-- the terms in the first group of the type
abbrev pub first_group : SimpleType → List Group → List ℕ
first_group a [] = []
first_group a (g ∷ gs) = if same_type a g.0 then g.1 else first_group a gs

-- the place of the first group of the type, or the end
abbrev pub group_place : SimpleType → List Group → ℕ
group_place a [] = 0
group_place a (g ∷ gs) = if same_type a g.0 then 0 else suc (group_place a gs)

-- each type's first group has its terms
abbrev pub AreRightGroups : List Group → List Listing → Type 0
AreRightGroups groups all = (a : SimpleType) → first_group a groups ≡ ids_of a all

-- the first group of the type has one more term, and the others are as before
abbrev pub HasOneMore : SimpleType → ℕ → List Group → List Group → Type 0
HasOneMore a id old new = (c : SimpleType) → first_group c new ≡ (if same_type c a then first_group c old ++ id ∷ [] else first_group c old)
