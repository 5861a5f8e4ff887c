-- What a schedule's turns and searches stand for.
use Rattle.std.specs.Prelude.{◌≡◌, ◌≢◌, ◌<◌, ◌≤◌, ◌+◌, ◌-◌, ◌*◌, ℕ, suc, Bool, false, List, [], ◌∷◌, map, length, slice_get, slice_index, sum, Option, Some, None}
use Rattle.tableau_calculus.specs.Literals.{Literal}
use Rattle.tableau_calculus.specs.Each.{Each}
use Rattle.search_spec.specs.State.{Setting}
use Rattle.command_queue.specs.declared.entry.Entry.{Entry}
use Rattle.mode_schedule.specs.declared.turns.Turn.{Turn}
use Rattle.mode_schedule.specs.Grammar.{most_blocks}
use Rattle.mode_schedule.specs.Turns.{Slot, Course, End, ScheduleEndsFrom, ScheduleEnds}
use Rattle.mode_schedule.specs.Ends.{SpendsFrom, Spends}
use Rattle.mode_schedule.specs.Internal.Turning.{IsRunPlace}

abbrev pub waiting_of : Entry Turn → Entry ℕ
waiting_of e = record { due = e.due; number = e.number; command = e.command.block }

-- the first turns of runs with these slices, from this number on
abbrev pub first_entries : ℕ → List ℕ → List (Entry Turn)
first_entries k [] = []
first_entries k (slice ∷ slices) =
    record { due = slice; number = k; command = record { block = k; slice = slice } } ∷ first_entries (suc k) slices

-- no run is there yet
abbrev pub AreNone : {S : Type 0} → List (Option S) → Type 0
AreNone [] = Unit {0}
AreNone (place ∷ places) = (place ≡ None) × AreNone places

-- a schedule of runs with these slices before its first turn
pub record IsFresh {S : Type 0} (slices : List ℕ) (entries : List (Entry Turn)) (pushes total : ℕ) (exhausted : Bool)
    (runs : List (Option S)) : Type 0 where
  pub entries_are : entries ≡ first_entries 0 slices
  pub pushes_are : pushes ≡ length slices
  pub total_is : total ≡ 0
  pub exhausted_is : exhausted ≡ false
  pub places : length runs ≡ length slices
  pub none : AreNone runs

-- no two turns are of one block
abbrev pub HaveOwnBlocks : List (Entry Turn) → Type 0
HaveOwnBlocks [] = Unit {0}
HaveOwnBlocks (e ∷ es) = Each (λ x. x.command.block ≢ e.command.block) es × HaveOwnBlocks es

-- a turn that waits, with its slot and the place of its run
pub record IsTurn {S : Type 0} (At : Setting → ℕ → S → Type 0) (slots : List Slot) (done : List ℕ) (runs : List (Option S)) (e : Entry Turn)
    : Type 0 where
  pub slot : Slot
  pub its_slot : slice_get slots e.command.block ≡ Some slot
  pub slice_is : e.command.slice ≡ slot.slice
  pub place : Option S
  pub its_place : slice_get runs e.command.block ≡ Some place
  pub held : IsRunPlace (At slot.setting) (slice_index done e.command.block) place

-- the greatest number of commands of a run
abbrev pub most_commands : ℕ
most_commands = 1000000

-- Turns and runs that stand for a course, from which the schedule ends, or spends conflicts, as from its start. No run has carried out more
-- commands than it may at most.
pub record StandsForCourse {S : Type 0} (At : Setting → ℕ → S → Type 0) (slots : List Slot) (start : List Literal)
    (entries : List (Entry Turn)) (pushes total : ℕ) (exhausted : Bool) (runs : List (Option S)) : Type 0 where
  pub course : Course
  pub turns_are : course.turns ≡ map waiting_of entries
  pub pushes_are : course.pushes ≡ pushes
  pub total_is : course.total ≡ total
  pub exhausted_is : course.exhausted ≡ exhausted
  pub reaches : (e : End) → ScheduleEndsFrom slots start course e → ScheduleEnds slots start e
  pub spends : (conflicts : ℕ) → SpendsFrom slots start course conflicts → Spends slots start conflicts
  pub apart : HaveOwnBlocks entries
  pub each : Each (IsTurn At slots course.done runs) entries
  pub sum_is : sum course.done ≡ total
  pub bounded : Each (λ n. n ≤ most_commands) course.done
  pub counted : length course.done ≡ length slots
  pub places : length runs ≡ length slots
  pub few : pushes ≤ length slots + total

-- the slots of a schedule: each may carry out a command in a turn, and no more than the greatest number of commands at all
pub record AreSlots (slots : List Slot) : Type 0 where
  pub few : length slots ≤ most_blocks
  pub slices : Each (λ s. 0 < s.slice) slots
  pub limits : Each (λ s. s.setting.mode.commands ≤ most_commands) slots

-- how many more turns there can be at most
abbrev pub turns_left : ℕ → List (Entry Turn) → ℕ
turns_left total entries = (most_blocks * most_commands - total) + length entries
