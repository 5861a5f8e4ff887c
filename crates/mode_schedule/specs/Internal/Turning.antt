-- Turns of runs, and places of runs.
use Rattle.std.specs.Prelude.{◌≡◌, ◌<◌, ◌≤◌, ◌+◌, ℕ, Option, Some, None, List}
use Rattle.tableau_calculus.specs.Literals.{Literal}
use Rattle.search_spec.specs.State.{Setting}
use Rattle.search_spec.specs.Result.{GoesOnUntil, IsProved, IsExhausted, IsStopped}
use Rattle.mode_schedule.specs.Ends.{IsSpentAt}
use Rattle.mode_schedule.specs.declared.turned.Turned.{Turned}
use Rattle.mode_schedule.specs.declared.turned.Turned.TheVariants.{Closed, HasNoneLeft, IsAtLimit, Spent, Paused}

-- the run ends within its turn, and has carried out k commands in it
pub record IsWithinTurn (slice before after : ℕ) (Ends : ℕ → Type 0) : Type 0 where
  pub k : ℕ
  pub carried : after ≡ before + k
  pub within : k < slice
  pub ends : Ends after

-- a turn ends, before which the run had carried out some commands, and after which it has
abbrev pub TurnEnds : Setting → List Literal → ℕ → ℕ → ℕ → Turned → Type 0
TurnEnds setting start slice before after Closed = IsWithinTurn slice before after (IsProved setting start)
TurnEnds setting start slice before after HasNoneLeft = IsWithinTurn slice before after (IsExhausted setting start)
TurnEnds setting start slice before after IsAtLimit = IsWithinTurn slice before after (IsStopped setting start)
TurnEnds setting start slice before after (Spent conflicts) =
    IsWithinTurn slice before after (λ n. IsSpentAt setting start n conflicts)
TurnEnds setting start slice before after Paused = (after ≡ before + slice) × GoesOnUntil setting start after

-- something holds where the turn ends so that the search waits for another one, or so that it closes
abbrev pub WherePaused : Turned → Type 0 → Type 0
WherePaused Paused P = P
WherePaused turned P = Unit {0}

abbrev pub WhereClosed : Turned → Type 0 → Type 0
WhereClosed Closed P = P
WhereClosed turned P = Unit {0}

-- something holds where the turn ends so that the search leaves
abbrev pub WhereLeft : Turned → Type 0 → Type 0
WhereLeft HasNoneLeft P = P
WhereLeft IsAtLimit P = P
WhereLeft turned P = Unit {0}

-- What a turn of a run came to that had carried out n commands: how it ended, and what holds of the run where it waits and where it is
-- closed.
pub record TookTurn (At Left : ℕ → Type 0) (setting : Setting) (start : List Literal) (slice n : ℕ) (turned : Turned) (commands : ℕ) : Type
    0 where
  pub ends : TurnEnds setting start slice n (n + commands) turned
  pub within : n + commands ≤ setting.mode.commands
  pub paused : WherePaused turned (At (n + commands))
  pub closed : WhereClosed turned (Left (n + commands))

-- where a run is there it is at its place, and else it has carried out no command
abbrev pub IsRunPlace : {S : Type 0} → (ℕ → S → Type 0) → ℕ → Option S → Type 0
IsRunPlace At n None = n ≡ 0
IsRunPlace At n (Some s) = At n s

-- a run is there, and this holds of it after n commands
pub record IsRunThere {S : Type 0} (P : ℕ → S → Type 0) (n : ℕ) (place : Option S) : Type 0 where
  pub run : S
  pub place_is : place ≡ Some run
  pub holds : P n run

-- the same of a turn of the run at a place: one that has left isn't there any more
pub record TookPlace {S : Type 0} (At Left : ℕ → S → Type 0) (setting : Setting) (start : List Literal) (slice n : ℕ) (place : Option S)
    (turned : Turned) (commands : ℕ) : Type 0 where
  pub ends : TurnEnds setting start slice n (n + commands) turned
  pub within : n + commands ≤ setting.mode.commands
  pub paused : WherePaused turned (IsRunThere At (n + commands) place)
  pub closed : WhereClosed turned (IsRunThere Left (n + commands) place)
  pub left : WhereLeft turned (place ≡ None)
