-- What an instance of a rule adds to the search.
use Rattle.std.specs.Prelude.{◌++◌, List, [], ◌∷◌, if◌then◌else◌}
use Rattle.std.specs.List.{list_all, flat_map}
use Rattle.tableau_calculus.specs.Literals.{Literal}
use Rattle.tableau_calculus.specs.Kinds.{has, formulas}
use Rattle.search_spec.specs.Shallow.{is_shallow_literal}
use Rattle.search_spec.specs.Clauses.{instance_clauses, with_clauses}
use Rattle.mode_file.specs.declared.Mode.{Mode}
use Rattle.search_spec.specs.State.{State, process, with_commands}
use Rattle.tableau_calculus.specs.Rules.{Alternatives}

-- the literal is seen and is to be processed, unless it was seen before
abbrev pub with_literal : Mode → Literal → State → State
with_literal mode l s = if has formulas s.seen l then s else with_commands mode (process l ∷ []) (record s { seen = s.seen ++ l ∷ [] })

abbrev pub with_literals : Mode → List Literal → State → State
with_literals mode [] s = s
with_literals mode (l ∷ ls) s = with_literals mode ls (with_literal mode l s)

-- The state with an instance: its clauses, and the literals of its alternatives in order, unless one of these is too deep.
abbrev pub with_instance : Mode → List Literal → Alternatives → State → State
with_instance mode principals alternatives s =
    if list_all (list_all is_shallow_literal) alternatives
    then with_literals mode (flat_map (λ (a : List Literal). a) alternatives)
    (record s { clauses = with_clauses formulas s.clauses (instance_clauses formulas principals alternatives) })
    else s
