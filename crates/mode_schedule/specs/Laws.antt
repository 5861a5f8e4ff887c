-- Laws of schedules.
use Rattle.std.specs.Prelude.{◌≡◌, ◌≢◌, ◌↔◌, ◌<◌, ◌≤◌, ◌+◌, ℕ, List, [], ◌∷◌, slice_get, Some}
use Rattle.tableau_calculus.specs.Literals.{Literal}
use Rattle.search_spec.specs.State.{Setting}
use Rattle.search_spec.specs.Result.{IsProved, IsExhausted, IsStopped}
use Rattle.command_queue.specs.declared.entry.Entry.{Entry}
use Rattle.prover_run.specs.Ended.{IsSpent}
use Rattle.mode_schedule.specs.Turns.{Slot, Course, IsNextTurn, done_by, End, closed, empty, ScheduleEnds}
use Rattle.mode_schedule.specs.Ends.{IsSpentAt, SpendsFrom, Spends}

-- a schedule ends in one way at most
abbrev pub SchedulesEndOneWay : Type 0
SchedulesEndOneWay =
    (slots : List Slot) (start : List Literal) (e e' : End) → ScheduleEnds slots start e → ScheduleEnds slots start e' → e ≡ e'

-- the run of this number is proved
abbrev pub IsProvedRun : List Slot → List Literal → ℕ → Type 0
IsProvedRun slots start block = (slot : Slot) × (slice_get slots block ≡ Some slot) × ((n : ℕ) × IsProved slot.setting start n)

-- the schedule ends closed
abbrev pub IsClosedEnd : End → Type 0
IsClosedEnd e = (block total : ℕ) × (e ≡ closed block total)

-- where a run closes the schedule, it is proved
abbrev pub ClosedRunsAreProved : Type 0
ClosedRunsAreProved =
    (slots : List Slot) (start : List Literal) (block total : ℕ)
    → ScheduleEnds slots start (closed block total)
    → IsProvedRun slots start block

-- however a schedule ends, it is closed exactly where some run is proved
abbrev pub ClosedExactlyWhereProved : Type 0
ClosedExactlyWhereProved =
    (slots : List Slot) (start : List Literal) (e : End)
    → ScheduleEnds slots start e
    → IsClosedEnd e ↔ ((block : ℕ) × IsProvedRun slots start block)

-- the conflicts of a slot's mode are spent in its run by itself
pub record IsSpentIn (slots : List Slot) (start : List Literal) (conflicts : ℕ) : Type 0 where
  pub number : ℕ
  pub slot : Slot
  pub its_slot : slice_get slots number ≡ Some slot
  pub spent : IsSpent slot.setting start conflicts

-- where a schedule spends conflicts, some run by itself does
abbrev pub SpentRunsAreSpent : Type 0
SpentRunsAreSpent =
    (slots : List Slot) (start : List Literal) (conflicts : ℕ) → Spends slots start conflicts → IsSpentIn slots start conflicts

-- Where the run of the next turn is proved in it, a schedule spends no conflicts but in that turn, and none behind that command.
abbrev pub SpentBeforeClosed : Type 0
SpentBeforeClosed =
    (slots : List Slot) (start : List Literal) (c : Course) (turn : Entry ℕ) (slot : Slot) (k conflicts : ℕ)
    → IsNextTurn slots c turn slot
    → k < slot.slice
    → IsProved slot.setting start (done_by c turn + k)
    → SpendsFrom slots start c conflicts
    → (j : ℕ) × (j ≤ k) × IsSpentAt slot.setting start (done_by c turn + j) conflicts

abbrev pub two_slots : ℕ → Setting → ℕ → Setting → List Slot
two_slots m s n t = record { slice = m; setting = s } ∷ record { slice = n; setting = t } ∷ []

-- worked examples: slices of 3 and 100, where the first run is proved after 8 commands, which are its third turn's second one ..
abbrev pub FirstCloses : Type 0
FirstCloses =
    (first second : Setting) (start : List Literal)
    → IsProved first start 8
    → ScheduleEnds (two_slots 3 first 100 second) start (closed 0 8)

-- .. slices of 1, where the first run has no command left after one, and the second may carry out none ..
abbrev pub FirstHasNoneLeft : Type 0
FirstHasNoneLeft =
    (first second : Setting) (start : List Literal)
    → IsExhausted first start 1
    → IsStopped second start 0
    → ScheduleEnds (two_slots 1 first 1 second) start (empty 1)

-- .. and slices of 1, where both runs are proved: the second one's fourth turn finds it so after seven commands, four of them the first
-- one's
abbrev pub SecondCloses : Type 0
SecondCloses =
    (first second : Setting) (start : List Literal)
    → IsProved first start 9
    → IsProved second start 3
    → ScheduleEnds (two_slots 1 first 1 second) start (closed 1 7)

abbrev pub ExamplesEnd : Type 0
ExamplesEnd = FirstCloses × FirstHasNoneLeft × SecondCloses

-- Slices of 100 and 1000, where the first run is proved after four commands, in its first turn: that of the second one never comes, and no
-- conflicts are spent but those of the first one's mode.
abbrev pub SecondSpendsNothing : Type 0
SecondSpendsNothing =
    (first second : Setting) (start : List Literal) (conflicts : ℕ)
    → IsProved first start 4
    → conflicts ≢ first.mode.conflicts
    → Spends (two_slots 100 first 1000 second) start conflicts
    → ⊥
