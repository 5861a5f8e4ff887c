-- Where a literal's outermost variable is applied to other variables that are found, so that a formula under binders of their types can
-- stand for it.
use Rattle.std.specs.Prelude.{ℕ, suc, ◌-◌, ◌++◌, ◌&&◌, nat_eq, nat_lt, not, slice_index_or, reverse, length, map, List, [], ◌∷◌, Bool, false, Option, Some, None, if◌then◌else◌}
use Rattle.std.specs.List.{list_all}
use Rattle.stt_core.specs.SimpleType.{SimpleType, formula, same_type}
use Rattle.stt_core.specs.Lambda.{negation, implication, all, equality, Lambda, constant, lam, app}
use Rattle.tableau_calculus.specs.Literals.{Literal}
use Rattle.search_spec.specs.Spine.{is_application}
use Rattle.search_spec.specs.Matching.Variables.{variable_arguments}
use Rattle.search_spec.specs.Matching.Groups.{is_headed_by, outermost_count}
use Rattle.search_spec.specs.Matching.Patterns.{PassedBinder, Polarity, even_polarity, both_polarities, is_even, turned_polarity, passed}

-- whether variable y under these binders is matchable, and not the outermost one
abbrev pub is_inner_matchable : List PassedBinder → ℕ → Bool
is_inner_matchable binders y = slice_index_or (map (λ b. b.matchable) binders) y false && nat_lt (suc y) (length binders)

-- the types of these variables, which are given last one first, where all are matchable, and none is the outermost one
abbrev pub flex_types : List PassedBinder → Option (List ℕ) → List (List SimpleType)
flex_types binders None = []
flex_types binders (Some ys) =
    if list_all (is_inner_matchable binders) ys
    then reverse (map (λ y. slice_index_or (map (λ b. b.type) binders) y formula) ys) ∷ []
    else []

-- The types of an atom's arguments, first one first, where its head is the outermost variable, it has even polarity and arguments, and
-- these are distinct matchable variables other than the outermost one.
abbrev pub atom_flexes : Polarity → List PassedBinder → Lambda → List (List SimpleType)
atom_flexes p binders t =
    if is_even p && is_application t && is_headed_by (length binders - 1) 0 t then flex_types binders (variable_arguments t) else []

-- those of the atoms of a formula, left before right
abbrev pub formula_flexes : Polarity → List PassedBinder → Lambda → List (List SimpleType)
formula_flexes p binders (app (constant negation) s) = formula_flexes (turned_polarity p) binders s
formula_flexes p binders (app (app (constant implication) s) t) =
    formula_flexes (turned_polarity p) binders s ++ formula_flexes p binders t
formula_flexes p binders (app (app (constant (equality a)) s) t) =
    if same_type a formula then formula_flexes both_polarities binders s ++ formula_flexes both_polarities binders t else []
formula_flexes p binders (app (constant (all a)) (lam b s)) = formula_flexes p (passed (is_even p) b ∷ binders) s
formula_flexes p binders t = atom_flexes p binders t

-- The flexes of a literal that says of all values of its outermost variables that a formula holds: for each one the types of the
-- arguments, so that the outermost variable has the type of functions from these to formulas.
abbrev pub literal_flexes : Literal → List (List SimpleType)
literal_flexes l =
    if l.positive && not (nat_eq (outermost_count l.atom) 0) then formula_flexes even_polarity [] l.atom else []
