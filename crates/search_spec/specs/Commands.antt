-- What the commands do.
use Rattle.std.specs.Prelude.{[], ◌∷◌, Option, Some, None, unwrap_or, if◌then◌else◌}
use Rattle.stt_core.specs.SimpleType.{formula}
use Rattle.stt_core.specs.Lambda.{all, equality, Lambda, constant, app}
use Rattle.stt_core.specs.Typing.{Scope, type_of}
use Rattle.tableau_calculus.specs.Literals.{Literal}
use Rattle.search_spec.specs.Shallow.{is_shallow}
use Rattle.search_spec.specs.Partial.{Hole, Partial, head, first_hole, with_filling, whole_term, with_holes}
use Rattle.search_spec.specs.Spine.{head_of, arguments}
use Rattle.search_spec.specs.State.{State, Setting, Sketch, Command, process, mate, confront, inst, choose, describe, grow, scope_in}
use Rattle.tableau_calculus.specs.Rules.{all_pos, differ, con, cho, des}
use Rattle.search_spec.specs.Instances.{with_instance}
use Rattle.search_spec.specs.Terms.{with_term, with_opening}
use Rattle.search_spec.specs.Processing.{with_processing}

-- two literals with the same head, which differ in an argument
abbrev pub with_mating : Setting → Literal → Literal → State → State
with_mating setting l m s =
    with_instance setting.mode (l ∷ m ∷ [])
    (differ (type_of (scope_in setting s) [] (head_of l.atom)) (arguments l.atom) (arguments m.atom)) s

-- an equation and the negation of one, by their atoms
abbrev pub with_confrontation : Setting → Literal → Literal → Lambda → Lambda → State → State
with_confrontation setting l m (app (app (constant (equality a)) s) t) (app (app c u) v) state =
    with_instance setting.mode (l ∷ m ∷ []) (con a s t u v) state
with_confrontation setting l m s t state = state

-- a universal literal and a term, where the term isn't too deep
abbrev pub with_instantiation : Setting → Literal → Lambda → Lambda → State → State
with_instantiation setting l (app (constant (all a)) f) u state =
    if is_shallow u then with_instance setting.mode (l ∷ []) (all_pos f u) state else state
with_instantiation setting l t u state = state

-- a partial term after it has grown: a term, where no hole is left, or else to be opened
abbrev pub with_growth : Setting → Sketch → Option Lambda → State → State
with_growth setting p (Some u) s = with_term setting.mode p.type u s
with_growth setting p None s = with_opening setting p s

-- a partial term with a head, and with holes for its arguments, in its first hole, which is this one
abbrev pub filling_at : Scope → Lambda → Partial → Option Hole → Option Partial
filling_at scope h p None = None
filling_at scope h p (Some at) = with_filling (with_holes (unwrap_or (type_of scope at.context h) formula) (head h)) p

abbrev pub growth_by : Scope → Lambda → Sketch → Sketch
growth_by scope h p = record p { partial = unwrap_or (filling_at scope h p.partial (first_hole [] p.partial)) p.partial }

abbrev pub with_command : Setting → Command → State → State
with_command setting (process l) s = with_processing setting l s
with_command setting (mate l m) s = with_mating setting l m s
with_command setting (confront l m) s = with_confrontation setting l m l.atom m.atom s
with_command setting (inst l u) s = with_instantiation setting l l.atom u s
with_command setting (choose a f) s = with_instance setting.mode [] (cho a f) s
with_command setting (describe a f) s = with_instance setting.mode [] (des a f) s
with_command setting (grow p h) s =
    let q = growth_by (scope_in setting s) h p in
    with_growth setting q (whole_term q.partial) s
