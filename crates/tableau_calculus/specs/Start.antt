-- Where a refutation of a problem starts.
use Rattle.std.specs.Prelude.{List, [], ◌∷◌, ◌++◌, map, Option, Some, None}
use Rattle.stt_core.specs.Lambda.{Lambda}
use Rattle.stt_core.specs.Typing.{Scope}
use Rattle.stt_core.specs.Declarations.{scope_of}
use Rattle.stt_core.specs.PlainProblem.{PlainProblem}
use Rattle.normal_forms.specs.Normal.{normal_form}
use Rattle.tableau_calculus.specs.Literals.{Literal, opposite, as_literal}
use Rattle.tableau_calculus.specs.Kinds.{added, formulas}

-- the list without repeats
abbrev pub without_repeats : List Literal → List Literal
without_repeats ls = added formulas [] ls

-- the literal of a formula's normal form
abbrev pub normal_literal : Scope → Lambda → Literal
normal_literal scope t = as_literal (normal_form scope [] t)

-- the negation of the conjecture, where there is one
abbrev pub denied : Scope → Option Lambda → List Literal
denied scope None = []
denied scope (Some t) = opposite (normal_literal scope t) ∷ []

-- The start of a problem: the literals of the assumed formulas in order, then the negation of the conjecture's, without repeats.
abbrev pub start : PlainProblem → List Literal
start p = without_repeats (map (normal_literal (scope_of p.declared)) p.assumed ++ denied (scope_of p.declared) p.conjecture)
