-- The commands of a run, one after the other.
use Rattle.std.specs.Prelude.{ℕ, zero, suc, List, [], ◌∷◌, Option, Some, None}
use Rattle.search_spec.specs.State.{State, Setting, Command}
use Rattle.search_spec.specs.Queue.{next_command}
use Rattle.command_queue.specs.declared.entry.Entry.{Entry}
use Rattle.search_spec.specs.After.{after_command}

abbrev pub then : Option (Entry Command) → List (Entry Command) → List (Entry Command)
then None later = []
then (Some q) later = q ∷ later

-- the next commands from a state on, of which there are n at most
abbrev pub trace : Setting → ℕ → Option State → List (Entry Command)
trace setting zero s = []
trace setting (suc n) None = []
trace setting (suc n) (Some s) = then (next_command s.queue) (trace setting n (after_command setting (next_command s.queue) s))
