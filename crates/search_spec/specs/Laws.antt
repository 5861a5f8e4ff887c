-- Laws of the definitions.
use Rattle.std.specs.Prelude.{◌≡◌, ◌↔◌, ℕ, true, List, [], map, Some}
use Rattle.stt_core.specs.Lambda.{Lambda}
use Rattle.stt_core.specs.Occurrence.{IsClosed}
use Rattle.stt_core.specs.Typing.{IsScope}
use Rattle.tableau_calculus.specs.Literals.{Literal, IsBranch}
use Rattle.tableau_calculus.specs.Witnesses.{with_rows}
use Rattle.sat_base.specs.declared.literal.SatLit.{SatLit}
use Rattle.sat_base.specs.Truth.{Unsat}
use Rattle.tableau_calculus.specs.Each.{Each}
use Rattle.search_spec.specs.Clauses.{instance_clauses, with_clauses}
use Rattle.search_spec.specs.Unsatisfiable.{Unsatisfiable}
use Rattle.tableau_calculus.specs.Kinds.{formulas}
use Rattle.search_spec.specs.Numbered.{numbers, literal_at, IsNumber, AreApart}
use Rattle.search_spec.specs.Closed.{is_closed}
use Rattle.mode_file.specs.declared.Mode.{Mode}
use Rattle.search_spec.specs.State.{State, Setting}
use Rattle.search_spec.specs.Standard.{IsPlainMode, SearchesPlainly}
use Rattle.search_spec.specs.After.{state_after}
use Rattle.search_spec.specs.TypedState.{IsTypedState}
use Rattle.search_spec.specs.Result.{Result, IsResult}
use Rattle.search_spec.specs.Rows.{AllRuns, AgreeRuns, ChosenRuns, DescribedRuns, SymRuns, SomeRuns, DueRuns, OfferedRuns, DelayedRuns, SeenRuns}

-- is_closed tells whether no variable is free in a term
abbrev pub ClosedTermsAreTold : Type 0
ClosedTermsAreTold = (t : Lambda) → (is_closed t ≡ true) ↔ IsClosed t

-- Where numbers stand for atoms, and no two of them for one atom, the clauses of an instance in numbers stand for its clauses ..
abbrev pub NumberedInstances : Type 0
NumberedInstances =
    (atoms : List Lambda) → AreApart atoms
    → (principals : List SatLit) (alternatives : List (List SatLit))
    → Each (IsNumber atoms) principals
    → Each (Each (IsNumber atoms)) alternatives
    → instance_clauses formulas (map (literal_at atoms) principals) (map (map (literal_at atoms)) alternatives)
    ≡ map (map (literal_at atoms)) (instance_clauses numbers principals alternatives)

-- .. clauses in numbers with further ones stand for the clauses with the further ones ..
abbrev pub NumberedClauses : Type 0
NumberedClauses =
    (atoms : List Lambda) → AreApart atoms
    → (clauses further : List (List SatLit)) → Each (Each (IsNumber atoms)) clauses → Each (Each (IsNumber atoms)) further
    → with_clauses formulas (map (map (literal_at atoms)) clauses) (map (map (literal_at atoms)) further)
    ≡ map (map (literal_at atoms)) (with_clauses numbers clauses further)

-- .. and clauses in numbers are unsatisfiable exactly where the clauses that they stand for are.
abbrev pub NumberedUnsatisfiable : Type 0
NumberedUnsatisfiable =
    (atoms : List Lambda) → AreApart atoms → (clauses : List (List SatLit)) → Each (Each (IsNumber atoms)) clauses
    → Unsat clauses ↔ Unsatisfiable (map (map (literal_at atoms)) clauses)

-- a run has one result at most
abbrev pub RunsEndOneWay : Type 0
RunsEndOneWay = (setting : Setting) (start : List Literal) (r r' : Result) → IsResult setting start r → IsResult setting start r' → r ≡ r'

-- the worked examples run as they are to
abbrev pub ExamplesRun : Type 0
ExamplesRun = AllRuns × AgreeRuns × ChosenRuns × DescribedRuns × SymRuns × SomeRuns × DueRuns × OfferedRuns × DelayedRuns × SeenRuns

-- Every state of a run from literals over what is declared is typed: its rows are a witness table, its literals are literals and its terms
-- canonical over what is declared and the witnesses, its partial terms take terms of their holes' types, and each command that waits has
-- its instance, or a hole with a head that fits.
abbrev pub StatesAreTyped : Type 0
StatesAreTyped =
    (setting : Setting) → IsScope setting.scope → (start : List Literal) → IsBranch (with_rows setting.scope []) start
    → (n : ℕ) (s : State) → state_after setting start n ≡ Some s → IsTypedState setting s

-- at their standard numbers the keys of this project's own change nothing
abbrev pub StandardKeysChangeNothing : Type 0
StandardKeysChangeNothing = (mode : Mode) → IsPlainMode mode → SearchesPlainly mode
