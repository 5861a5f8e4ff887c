-- Maps that have the places of the names of a list.
use Rattle.std.specs.Prelude.{◌≡◌, ℕ, List, Option, Some, None, position, cond}
use Rattle.std.specs.Borrow.{Bor}
use Rattle.std.specs.Str.{bytes_eq}
use Rattle.std.specs.Ordering.{nat_cmp}
use Rattle.std.specs.Cmp.Lexicographic.{slice_cmp}
use Rattle.std.specs.BTreeMap.{BTreeMap, get_by}

-- the place that is noted for a name
abbrev pub noted : BTreeMap (Bor (List ℕ)) ℕ → List ℕ → Option ℕ
noted places name = get_by (λ key. slice_cmp nat_cmp name key.now) places

-- the first place of the name in the list
abbrev pub first_place : List (List ℕ) → List ℕ → Option ℕ
first_place names name = position (λ n. bytes_eq n name) names

-- what is noted of the name `other` where `name` stands at the place, behind what was noted before
abbrev pub noted_next : Option ℕ → List ℕ → ℕ → List ℕ → Option ℕ
noted_next (Some k) name place other = Some k
noted_next None name place other = cond (bytes_eq name other) (Some place) None

-- of each name its first place is noted, and of others none
abbrev pub MapsToPlaces : BTreeMap (Bor (List ℕ)) ℕ → List (List ℕ) → Type 0
MapsToPlaces places names = (name : List ℕ) → noted places name ≡ first_place names name
