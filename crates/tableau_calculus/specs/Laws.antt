-- What holds of witness tables and of rules, whichever they are.
use Rattle.std.specs.Prelude.{List}
use Rattle.stt_core.specs.Typing.{Scope}
use Rattle.stt_core.specs.Meaning.{Model, IsModel}
use Rattle.tableau_calculus.specs.Literals.{Literal, IsBranch}
use Rattle.tableau_calculus.specs.Meets.{MeetsBranch, MeetsOne}
use Rattle.tableau_calculus.specs.Witnesses.{Row, with_rows, IsTable}
use Rattle.tableau_calculus.specs.Rules.{PlainRule, Rule}
use Rattle.tableau_calculus.specs.Along.{extended, IsModelAlong}

-- every model extends along a witness table, to a model
abbrev pub ModelsExtend : Scope → List Row → Type 0
ModelsExtend scope rows = IsTable scope rows → (m : Model) → IsModel scope m → IsModelAlong scope rows (extended scope m rows)

-- where the types of what is declared are declared, a model along the rows that meets the principals of a rule meets one whole alternative
abbrev pub RulesKeepModels : Scope → List Row → Type 0
RulesKeepModels scope rows =
    (m : Model)
    → IsModelAlong scope rows m
    → (rule : PlainRule) (principals : List Literal) (alternatives : List (List Literal))
    → Rule (with_rows scope rows) rows rule principals alternatives
    → IsBranch (with_rows scope rows) principals
    → MeetsBranch (with_rows scope rows) m principals
    → MeetsOne (with_rows scope rows) m alternatives
