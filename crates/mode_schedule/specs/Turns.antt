-- Schedules of runs (this project's own): runs over one problem, each by a mode of its own, take turns.
use Rattle.std.specs.Prelude.{◌≡◌, ◌<◌, ◌+◌, ℕ, suc, Bool, true, false, List, [], ◌∷◌, ◌++◌, length, map, slice_get, slice_index, slice_set, Some, if◌then◌else◌}
use Rattle.tableau_calculus.specs.Literals.{Literal}
use Rattle.search_spec.specs.Queue.{next_command, without_number}
use Rattle.command_queue.specs.declared.entry.Entry.{Entry}
use Rattle.search_spec.specs.State.{Setting}
use Rattle.search_spec.specs.Result.{GoesOnUntil, IsProved, IsExhausted, IsStopped}

-- a run, by what it is given, and how many commands it carries out in a turn at most
pub record Slot : Type 0 where
  pub slice : ℕ
  pub setting : Setting

-- How far a schedule has come: how many commands each run has carried out; the turns that wait, each with the number of its run; how many
-- turns were pushed, and how many commands carried out by all runs; and whether a run has left since it had no command left.
pub record Course : Type 0 where
  pub done : List ℕ
  pub turns : List (Entry ℕ)
  pub pushes : ℕ
  pub total : ℕ
  pub exhausted : Bool

-- a turn for each run, in order, from the run of this number on: each is due when as many commands were carried out as its slice has
abbrev pub turns_from : ℕ → List Slot → List (Entry ℕ)
turns_from k [] = []
turns_from k (slot ∷ slots) = record { due = slot.slice; number = k; command = k } ∷ turns_from (suc k) slots

-- the start: no run has carried out a command
abbrev pub opened : List Slot → Course
opened slots = record { done = map (λ slot. 0) slots; turns = turns_from 0 slots; pushes = length slots; total = 0; exhausted = false }

-- this turn is next: it is due first, and of those that are due at once it was pushed first; and this is its run
pub record IsNextTurn (slots : List Slot) (c : Course) (turn : Entry ℕ) (slot : Slot) : Type 0 where
  pub is_next : next_command c.turns ≡ Some turn
  pub its_slot : slice_get slots turn.command ≡ Some slot

-- how many commands the run of a turn has carried out
abbrev pub done_by : Course → Entry ℕ → ℕ
done_by c turn = slice_index c.done turn.command

-- the turn is taken, and its run carries out k commands
abbrev pub taken : Course → Entry ℕ → ℕ → Course
taken c turn k =
    record c { done = slice_set c.done turn.command (done_by c turn + k); turns = without_number turn.number c.turns; total = c.total + k }

-- the run of the turn waits for its next one, which is due when as many commands more were carried out as its slice has
abbrev pub pushed_again : Slot → Entry ℕ → Course → Course
pushed_again slot turn c =
    record c {
      turns = c.turns ++ (record { due = c.total + slot.slice; number = c.pushes; command = turn.command }) ∷ [];
      pushes = c.pushes + 1;
    }

-- a run was found with no command left
abbrev pub exhausted_by : Course → Course
exhausted_by c = record c { exhausted = true }

-- How a schedule ends: the run of this number is proved; or no turn is left, where some run had no command left, or where all stopped at
-- their limits. The second number is that of the commands of all runs.
pub data End : Type 0 where
  closed : ℕ → ℕ → End
  empty : ℕ → End
  limit : ℕ → End

-- The next turn leads from a course to the next one. The run whose turn it is looks before each command whether it has no command left, or
-- is at its limit, and carries out as many commands as its slice has at most. Where it has no command left or is at its limit, it leaves.
-- Where it has carried out its slice, which it does without looking again, it waits for its next turn.
pub data LeadsTo (slots : List Slot) (start : List Literal) : Course → Course → Type 0 where
  has_none_left : (c : Course) (turn : Entry ℕ) (slot : Slot) (k : ℕ) → IsNextTurn slots c turn slot → k < slot.slice
      → IsExhausted slot.setting start (done_by c turn + k)
      → LeadsTo slots start c (exhausted_by (taken c turn k))
  is_at_limit : (c : Course) (turn : Entry ℕ) (slot : Slot) (k : ℕ) → IsNextTurn slots c turn slot → k < slot.slice
      → IsStopped slot.setting start (done_by c turn + k)
      → LeadsTo slots start c (taken c turn k)
  goes_on : (c : Course) (turn : Entry ℕ) (slot : Slot) → IsNextTurn slots c turn slot
      → GoesOnUntil slot.setting start (done_by c turn + slot.slice)
      → LeadsTo slots start c (pushed_again slot turn (taken c turn slot.slice))

-- How a schedule ends that has come so far. Where the run of the next turn looks and is proved, before it has carried out its slice, the
-- schedule is closed. Else the turn leads to the next course, from which it ends.
pub data ScheduleEndsFrom (slots : List Slot) (start : List Literal) : Course → End → Type 0 where
  closes : (c : Course) (turn : Entry ℕ) (slot : Slot) (k : ℕ) → IsNextTurn slots c turn slot → k < slot.slice
      → IsProved slot.setting start (done_by c turn + k) → ScheduleEndsFrom slots start c (closed turn.command (c.total + k))
  ends_after : (c next : Course) (e : End) → LeadsTo slots start c next → ScheduleEndsFrom slots start next e
      → ScheduleEndsFrom slots start c e
  no_turn_left : (c : Course) → c.turns ≡ [] → ScheduleEndsFrom slots start c (if c.exhausted then empty c.total else limit c.total)

-- how the schedule of these runs ends
abbrev pub ScheduleEnds : List Slot → List Literal → End → Type 0
ScheduleEnds slots start e = ScheduleEndsFrom slots start (opened slots) e
