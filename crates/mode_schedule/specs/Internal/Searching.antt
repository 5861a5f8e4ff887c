-- Turns of searches over tables.
use Rattle.std.specs.Prelude.{◌≡◌, ◌++◌, ℕ, Bool, false, List, [], ◌∷◌}
use Rattle.tableau_calculus.specs.Literals.{Literal}
use Rattle.sat_log.specs.Chains.{results}
use Rattle.sat_log.specs.Propagation.{ReachesFalse}
use Rattle.sat_core.specs.Solver.{learned}
use Rattle.search_spec.specs.Unsatisfiable.{Unsatisfiable}
use Rattle.search_spec.specs.State.{Setting}
use Rattle.search_spec.specs.Result.{GoesOnUntil, IsProved, IsExhausted, IsStopped}
use Rattle.mode_file.specs.declared.Mode.{Mode}
use Rattle.command_queue.specs.Queue.{Queue}
use Rattle.prover_state.specs.declared.command.Planned.{Planned}
use Rattle.prover_state.specs.declared.command.Delays.{Delays}
use Rattle.prover_state.specs.declared.tables.Tables.{Tables}
use Rattle.prover_state.specs.Internal.Standing.{setting_by, the_state}
use Rattle.prover_search.specs.Internal.Running.{start_in, IsUnderWay}
use Rattle.mode_schedule.specs.Ends.{IsSpentAt}
use Rattle.mode_schedule.specs.declared.turned.Turned.{Turned}
use Rattle.mode_schedule.specs.declared.turned.Turned.TheVariants.{Closed, HasNoneLeft, IsAtLimit, Spent, Paused}

-- A search by a mode whose run in this setting from these literals goes on until n commands, which it has carried out.
pub record IsAt (setting : Setting) (start : List Literal) (n : ℕ) (t : Tables) (q : Queue Planned Delays) (m : Mode) : Type 0 where
  pub under_way : IsUnderWay t q m
  pub setting_is : setting_by t q ≡ setting
  pub start_is : start_in t ≡ start
  pub done_is : t.done ≡ n
  pub until : GoesOnUntil setting start n

-- a search is left as after a step that answered that it is closed
pub record IsClosedSearch (t : Tables) (q : Queue Planned Delays) : Type 0 where
  pub unsatisfiable : Unsatisfiable (the_state t q).clauses
  pub ends : results t.solver.log ≡ learned t.solver ++ [] ∷ []
  pub propagated : ReachesFalse (t.solver.clauses ++ learned t.solver) []

-- where a turn ends closed, the search is left so
abbrev pub ClosesSearch : Tables → Queue Planned Delays → Turned → Type 0
ClosesSearch t q Closed = IsClosedSearch t q
ClosesSearch t q turned = Unit {0}

-- the run is looked at after n commands, and ends there
abbrev pub IsFound : Setting → List Literal → ℕ → Turned → Type 0
IsFound setting start n Closed = IsProved setting start n
IsFound setting start n HasNoneLeft = IsExhausted setting start n
IsFound setting start n IsAtLimit = IsStopped setting start n
IsFound setting start n (Spent conflicts) = IsSpentAt setting start n conflicts
IsFound setting start n Paused = ⊥

-- a search at such a place of its run, which was refused no memory
pub record IsReadyAt (setting : Setting) (start : List Literal) (n : ℕ) (t : Tables) (q : Queue Planned Delays) (m : Mode) (refused : Bool)
    : Type 0 where
  pub at : IsAt setting start n t q m
  pub ready : refused ≡ false

-- a search is left as after a step that answered that it is closed, after n commands of its run
pub record IsClosedAfter (setting : Setting) (start : List Literal) (n : ℕ) (t : Tables) (q : Queue Planned Delays) (m : Mode) : Type 0
  where
    pub under_way : IsUnderWay t q m
    pub setting_is : setting_by t q ≡ setting
    pub start_is : start_in t ≡ start
    pub done_is : t.done ≡ n
    pub closed : IsClosedSearch t q
