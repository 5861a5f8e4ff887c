-- The next command is taken.
use Rattle.std.specs.Prelude.{◌≡◌, suc, Some}
use Rattle.command_queue.specs.declared.entry.Entry.{Entry}
use Rattle.command_queue.specs.Queue.{Queue}
use Rattle.search_spec.specs.Queue.{next_command, without_number}
use Rattle.search_spec.specs.State.{Command as Meant}
use Rattle.prover_state.specs.declared.command.Command.{Command}
use Rattle.prover_state.specs.declared.command.Planned.{Planned}
use Rattle.prover_state.specs.declared.command.Rest.{Rest}
use Rattle.prover_state.specs.declared.command.Delays.{Delays}
use Rattle.prover_state.specs.declared.tables.Tables.{Tables}
use Rattle.prover_state.specs.Internal.Names.{Naming, command_at, IsNumberedCommand}
use Rattle.prover_state.specs.Internal.Standing.{naming_in, the_state}

-- the command that waits, of an entry in numbers
abbrev pub entry_at : Naming → Entry Command → Entry Meant
entry_at names e = record { due = e.due; number = e.number; command = command_at names e.command }

-- this command is next, with its number and when it is due, and is taken from the queue
pub record TakesNext (t : Tables) (before after : Queue Planned Delays) (e : Entry Command) : Type 0 where
  pub is_next : next_command (the_state t before).queue ≡ Some (entry_at (naming_in t) e)
  pub leaves : the_state t after ≡ record (the_state t before) { queue = without_number e.number (the_state t before).queue }
  pub numbers : IsNumberedCommand (naming_in t) e.command

-- the later commands without the first of them
abbrev pub rest_behind : Rest → Rest
rest_behind r = record r { next = suc r.next }
