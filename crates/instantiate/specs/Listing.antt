-- Terms by number, with their types.
use Rattle.std.specs.Prelude.{ℕ, List, [], ◌∷◌, ◌++◌, map, filter, if◌then◌else◌, nat_eq}
use Rattle.std.specs.List.{list_any}
use Rattle.stt_core.specs.SimpleType.{SimpleType, same_type}

-- a term of a type
abbrev pub Listing : Type 0
Listing = SimpleType × ℕ

-- the terms of a type, in the order in which they came
abbrev pub ids_of : SimpleType → List Listing → List ℕ
ids_of a all = map (λ l. l.1) (filter (λ l. same_type a l.0) all)

-- a term of a type, where it is new, is the last of all
abbrev pub with_listed : SimpleType → ℕ → List Listing → List Listing
with_listed a id all = if list_any (nat_eq id) (ids_of a all) then all else all ++ (a, id) ∷ []
