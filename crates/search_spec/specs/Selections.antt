-- The choices and the descriptions in a formula.
use Rattle.std.specs.Prelude.{◌++◌, List, [], ◌∷◌, if◌then◌else◌}
use Rattle.std.specs.List.{list_any}
use Rattle.stt_core.specs.SimpleType.{SimpleType}
use Rattle.stt_core.specs.Lambda.{choice, description, Lambda, bound, constant, lam, app}
use Rattle.stt_core.specs.SameTerm.{same_term}
use Rattle.search_spec.specs.Closed.{is_closed}
use Rattle.mode_file.specs.declared.Mode.{Mode}
use Rattle.search_spec.specs.State.{State, choose, describe, with_commands}

-- a predicate on a type, by which a term chooses or describes a value of the type
pub data Selection : Type 0 where
  by_choice : SimpleType → Lambda → Selection
  by_description : SimpleType → Lambda → Selection

-- the predicate, where the function is a choice or a description and no variable is free in the predicate
abbrev pub selection_by : Lambda → Lambda → List Selection
selection_by (constant (choice a)) f = if is_closed f then by_choice a f ∷ [] else []
selection_by (constant (description a)) f = if is_closed f then by_description a f ∷ [] else []
selection_by t f = []

-- the closed predicates by which a term chooses or describes, from left to right, those of a term before those of its arguments
abbrev pub selections_in : Lambda → List Selection
selections_in (bound k) = []
selections_in (constant c) = []
selections_in (lam a s) = selections_in s
selections_in (app s u) = selection_by s u ++ selections_in s ++ selections_in u

-- the predicate is chosen by, or described, unless it was before
abbrev pub with_selection : Mode → Selection → State → State
with_selection mode (by_choice a f) s =
    if list_any (same_term f) s.chosen then s else with_commands mode (choose a f ∷ []) (record s { chosen = s.chosen ++ f ∷ [] })
with_selection mode (by_description a f) s =
    if list_any (same_term f) s.described
    then s
    else with_commands mode (describe a f ∷ []) (record s { described = s.described ++ f ∷ [] })

abbrev pub with_selections : Mode → List Selection → State → State
with_selections mode [] s = s
with_selections mode (p ∷ ps) s = with_selections mode ps (with_selection mode p s)
