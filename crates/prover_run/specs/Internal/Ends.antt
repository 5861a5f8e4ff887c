-- How a run from literals ends.
use Rattle.std.specs.Prelude.{◌≡◌, ◌+◌, ℕ, List, length, Option}
use Rattle.stt_core.specs.Typing.{Scope}
use Rattle.tableau_calculus.specs.Literals.{Literal}
use Rattle.tableau_calculus.specs.Witnesses.{Row}
use Rattle.tableau_calculus.specs.declared.refutation.Refutation.{Refutation}
use Rattle.search_spec.specs.State.{Setting}
use Rattle.search_spec.specs.Unsatisfiable.{Clause}
use Rattle.search_spec.specs.Result.{GoesOn, IsExhausted, IsStopped}
use Rattle.sat_core.specs.Solver.{learned}
use Rattle.command_queue.specs.Queue.{Queue}
use Rattle.prover_state.specs.declared.command.Planned.{Planned}
use Rattle.prover_state.specs.declared.command.Delays.{Delays}
use Rattle.prover_state.specs.declared.tables.Tables.{Tables}
use Rattle.prover_state.specs.Internal.Standing.{without_witnesses, rows_in, setting_by}
use Rattle.prover_search.specs.Internal.Running.{start_in}
use Rattle.plain_tableau.specs.declared.stripped.Stripped.{Stripped}
use Rattle.prover_run.specs.RunTables.{clauses_of, input_of}
use Rattle.prover_run.specs.Tree.{IsTreeAsked}
use Rattle.prover_run.specs.Ended.{RefutesFrom, IsProvedBy, IsSpent}
use Rattle.prover_run.specs.declared.ended.Ended.{Ended}
use Rattle.prover_run.specs.declared.ended.Ended.TheVariants.{Proved, GaveUp, CommandLimit, ConflictLimit}

-- a refutation that is rebuilt from the tables
pub record RefutesByTables (t : Tables) (refutation : Refutation) : Type 0 where
  pub refutes :
      RefutesFrom (without_witnesses t.basis.bank) (start_in t) (rows_in t.basis) (clauses_of t) (length (learned t.solver))
      refutation
  pub input : refutes.shortly.input ≡ input_of t

-- a refutation, and what comes of a tree from what it is rebuilt from
pub record RefutesWithTree (scope : Scope) (start : List Literal) (rows : List Row) (clauses : List Clause) (conflicts : ℕ)
    (refutation : Refutation) (nodes : Option ℕ) (stripped : Option Stripped) : Type 0 where
  pub refutes : RefutesFrom scope start rows clauses conflicts refutation
  pub tree : IsTreeAsked scope start start refutes.shortly.input nodes stripped

abbrev pub EndsFrom : Setting → List Literal → Option ℕ → Ended → Type 0
EndsFrom setting start nodes (Proved n refutation tree) =
    (proof : IsProvedBy setting start n refutation) × IsTreeAsked setting.scope start start proof.refutes.shortly.input nodes tree
EndsFrom setting start nodes (GaveUp n) = IsExhausted setting start n
EndsFrom setting start nodes (CommandLimit n) = IsStopped setting start n
EndsFrom setting start nodes (ConflictLimit conflicts) = IsSpent setting start conflicts

-- The run goes on by one command, in the same setting and from the same start.
pub record GoesOnTo (t : Tables) (q : Queue Planned Delays) (t2 : Tables) (q2 : Queue Planned Delays) : Type 0 where
  pub goes_on : GoesOn (setting_by t q) (start_in t) t.done
  pub done : t2.done ≡ t.done + 1
  pub setting : setting_by t2 q2 ≡ setting_by t q
  pub start : start_in t2 ≡ start_in t
