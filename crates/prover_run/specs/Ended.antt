-- How a run over a problem ends.
use Rattle.std.specs.Prelude.{◌≡◌, ℕ, List, filter, Option, Some}
use Rattle.stt_core.specs.PlainProblem.{PlainProblem}
use Rattle.stt_core.specs.Declarations.{scope_of}
use Rattle.stt_core.specs.Typing.{Scope}
use Rattle.tableau_calculus.specs.Literals.{Literal}
use Rattle.tableau_calculus.specs.Start.{start}
use Rattle.tableau_calculus.specs.Witnesses.{Row}
use Rattle.tableau_calculus.specs.Accepted.{IsAccepted}
use Rattle.tableau_calculus.specs.declared.refutation.Refutation.{Refutation}
use Rattle.search_spec.specs.Shallow.{is_shallow_literal}
use Rattle.search_spec.specs.State.{State, Setting}
use Rattle.search_spec.specs.After.{state_after}
use Rattle.search_spec.specs.Result.{GoesOnUntil, IsProved, IsExhausted, IsStopped}
use Rattle.search_spec.specs.Unsatisfiable.{Clause}
use Rattle.rebuild_spec.specs.Trimmed.{IsEachReached}
use Rattle.refute_print.specs.Sizes.{IsSmall}
use Rattle.mode_file.specs.declared.Mode.{Mode}
use Rattle.prover_run.specs.Learning.{AreSpent, AreRefutedWithin, AreEnough}
use Rattle.prover_run.specs.Tree.{IsTreeAsked}
use Rattle.prover_run.specs.Origin.{EachComesFrom, AreRefutedShortly}
use Rattle.prover_run.specs.declared.ended.Ended.{Ended}
use Rattle.prover_run.specs.declared.ended.Ended.TheVariants.{Proved, GaveUp, CommandLimit, ConflictLimit}

-- what a problem declares, and a mode
abbrev pub setting_for : PlainProblem → Mode → Setting
setting_for p m = record { scope = scope_of p.declared; mode = m }

-- The refutation is accepted for the start and small enough for a text. Each of its lines is reached and comes from the clauses. These are
-- refuted within so many conflicts, and from the log of what was learned the refutation is rebuilt.
pub record RefutesFrom (scope : Scope) (start : List Literal) (rows : List Row) (clauses : List Clause) (conflicts : ℕ)
    (refutation : Refutation) : Type 0 where
  pub accepted : IsAccepted scope start refutation
  pub reached : IsEachReached refutation.lines
  pub small : IsSmall refutation
  pub origin : EachComesFrom start clauses refutation.lines
  pub within : AreRefutedWithin conflicts clauses
  pub shortly : AreRefutedShortly scope start rows clauses within.learning refutation

-- the run from literals is proved after so many commands, with a refutation
pub record IsProvedBy (setting : Setting) (start : List Literal) (n : ℕ) (refutation : Refutation) : Type 0 where
  pub proved : IsProved setting start n
  pub refutes : RefutesFrom setting.scope start proved.state.rows proved.state.clauses setting.mode.conflicts refutation

-- The run is proved after n commands, and the refutation is accepted for the start and small enough for a text. Each of its lines is
-- reached from the last one and comes from the clauses of the state after these commands. These are refuted within the conflicts of the
-- mode, and from the log of what was learned the refutation is rebuilt.
pub record IsRefuted (p : PlainProblem) (m : Mode) (n : ℕ) (refutation : Refutation) : Type 0 where
  pub proved : IsProved (setting_for p m) (start p) n
  pub accepted : IsAccepted (scope_of p.declared) (start p) refutation
  pub reached : IsEachReached refutation.lines
  pub small : IsSmall refutation
  pub origin : EachComesFrom (start p) proved.state.clauses refutation.lines
  pub within : AreRefutedWithin m.conflicts proved.state.clauses
  pub shortly :
      AreRefutedShortly (scope_of p.declared) (start p) proved.state.rows proved.state.clauses within.learning refutation

-- The run from literals goes on until some number of commands, and there the conflicts of the mode are spent.
pub record IsSpent (setting : Setting) (literals : List Literal) (conflicts : ℕ) : Type 0 where
  pub is_budget : conflicts ≡ setting.mode.conflicts
  pub commands : ℕ
  pub until : GoesOnUntil setting literals commands
  pub state : State
  pub comes_to : state_after setting literals commands ≡ Some state
  pub spent : AreSpent state.clauses conflicts

-- the mode has enough conflicts for the clauses of each state of the run
abbrev pub HasEnoughConflicts : Setting → List Literal → Type 0
HasEnoughConflicts setting literals =
    (n : ℕ) (state : State) → state_after setting literals n ≡ Some state → AreEnough setting.mode.conflicts state.clauses

-- How the run over the problem by the mode ends, of which a tree of at most so many nodes may be asked for. A tree begins with the literals
-- of the start that are shallow enough.
abbrev pub EndsAs : PlainProblem → Mode → Option ℕ → Ended → Type 0
EndsAs p m nodes (Proved n refutation tree) =
    (refuted : IsRefuted p m n refutation)
    × IsTreeAsked (scope_of p.declared) (start p) (filter is_shallow_literal (start p)) refuted.shortly.input nodes tree
EndsAs p m nodes (GaveUp n) = IsExhausted (setting_for p m) (start p) n
EndsAs p m nodes (CommandLimit n) = IsStopped (setting_for p m) (start p) n
EndsAs p m nodes (ConflictLimit conflicts) = IsSpent (setting_for p m) (start p) conflicts
