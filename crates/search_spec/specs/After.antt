-- The run of the search (Brown 2013): command by command.
use Rattle.std.specs.Prelude.{ℕ, zero, suc, List, [], ◌∷◌, map, filter, false, Option, Some, None}
use Rattle.tableau_calculus.specs.Literals.{Literal}
use Rattle.search_spec.specs.Shallow.{is_shallow_literal}
use Rattle.search_spec.specs.State.{State, Setting, Command, process, moment_by, with_commands}
use Rattle.search_spec.specs.Offers.{offered_heads}
use Rattle.search_spec.specs.Commands.{with_command}
use Rattle.search_spec.specs.Queue.{next_command, without_number}
use Rattle.command_queue.specs.declared.entry.Entry.{Entry}

abbrev pub nothing_yet : State
nothing_yet = record {
  clauses = [];
  seen = [];
  noted = [];
  terms = [];
  chosen = [];
  described = [];
  rows = [];
  parked = [];
  queue = [];
  pushes = 0;
  done = 0;
  moment = 0;
  offers = record { names = []; bases = []; choices = false };
}

-- The start: each literal that is shallow enough is a clause, is seen, and is to be processed. What they are made of says which heads are
-- offered.
abbrev pub starting_state : Setting → List Literal → State
starting_state setting start =
    let literals = filter is_shallow_literal start in
    let offers = offered_heads setting.mode setting.scope literals in
    with_commands setting.mode (map process literals)
    (record nothing_yet { clauses = map (λ l. l ∷ []) literals; seen = literals; offers = offers })

-- the state in which this command was taken from the queue
abbrev pub with_taken : Setting → Entry Command → State → State
with_taken setting q s =
    record s { queue = without_number q.number s.queue; done = suc s.done; moment = moment_by setting.mode.clock (suc s.done) q.due }

-- the state in which it was carried out
abbrev pub after_command : Setting → Option (Entry Command) → State → Option State
after_command setting None s = None
after_command setting (Some q) s = Some (with_command setting q.command (with_taken setting q s))

abbrev pub next_state : Setting → Option State → Option State
next_state setting None = None
next_state setting (Some s) = after_command setting (next_command s.queue) s

-- the state after so many commands, which is defined while commands wait
abbrev pub state_after : Setting → List Literal → ℕ → Option State
state_after setting start zero = Some (starting_state setting start)
state_after setting start (suc n) = next_state setting (state_after setting start n)
