-- How the search ends.
use Rattle.std.specs.Prelude.{◌≡◌, ◌≢◌, ◌<◌, ℕ, List, [], Some}
use Rattle.tableau_calculus.specs.Literals.{Literal}
use Rattle.search_spec.specs.Unsatisfiable.{Unsatisfiable}
use Rattle.search_spec.specs.State.{State, Setting}
use Rattle.search_spec.specs.After.{state_after}

-- the search comes to the state after n commands, and its clauses are satisfiable
pub record IsOpen (setting : Setting) (start : List Literal) (n : ℕ) (s : State) : Type 0 where
  pub comes_to : state_after setting start n ≡ Some s
  pub satisfiable : Unsatisfiable s.clauses → ⊥

-- the search goes on after n commands: its clauses are satisfiable, commands are left, and the limit isn't reached
pub record GoesOn (setting : Setting) (start : List Literal) (n : ℕ) : Type 0 where
  pub state : State
  pub open_state : IsOpen setting start n state
  pub some_left : state.queue ≢ []
  pub below : n ≢ setting.mode.commands

abbrev pub GoesOnUntil : Setting → List Literal → ℕ → Type 0
GoesOnUntil setting start n = (m : ℕ) → m < n → GoesOn setting start m

-- after n commands, and not before, the clauses are unsatisfiable
pub record IsProved (setting : Setting) (start : List Literal) (n : ℕ) : Type 0 where
  pub until : GoesOnUntil setting start n
  pub state : State
  pub comes_to : state_after setting start n ≡ Some state
  pub unsatisfiable : Unsatisfiable state.clauses

-- after n commands none is left, and the clauses are satisfiable
pub record IsExhausted (setting : Setting) (start : List Literal) (n : ℕ) : Type 0 where
  pub until : GoesOnUntil setting start n
  pub state : State
  pub open_state : IsOpen setting start n state
  pub none_left : state.queue ≡ []

-- the limit is reached, the clauses are satisfiable, and commands are left
pub record IsStopped (setting : Setting) (start : List Literal) (n : ℕ) : Type 0 where
  pub until : GoesOnUntil setting start n
  pub state : State
  pub open_state : IsOpen setting start n state
  pub some_left : state.queue ≢ []
  pub at_limit : n ≡ setting.mode.commands

-- how a run ends: proved, given up or stopped, after so many commands
pub data Result : Type 0 where
  proved : ℕ → Result
  gave_up : ℕ → Result
  stopped : ℕ → Result

abbrev pub IsResult : Setting → List Literal → Result → Type 0
IsResult setting start (proved n) = IsProved setting start n
IsResult setting start (gave_up n) = IsExhausted setting start n
IsResult setting start (stopped n) = IsStopped setting start n
