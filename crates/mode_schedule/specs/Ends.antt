-- How schedules end that conflicts may end, too.
use Rattle.std.specs.Prelude.{◌≡◌, ◌<◌, ◌+◌, ℕ, List, slice_get, Option, Some}
use Rattle.tableau_calculus.specs.Literals.{Literal}
use Rattle.search_spec.specs.State.{Setting}
use Rattle.search_spec.specs.Result.{IsProved}
use Rattle.prover_run.specs.Ended.{IsSpent}
use Rattle.mode_schedule.specs.declared.ended.Ended.{Ended}
use Rattle.mode_schedule.specs.declared.ended.Ended.TheVariants.{Closed, Empty, Limit, Spent}
use Rattle.command_queue.specs.declared.entry.Entry.{Entry}
use Rattle.mode_schedule.specs.Turns.{Slot, Course, opened, IsNextTurn, done_by, LeadsTo, closed, empty, limit, ScheduleEnds}

-- the run from literals goes on until n commands, and there the conflicts of its mode are spent
pub record IsSpentAt (setting : Setting) (start : List Literal) (n conflicts : ℕ) : Type 0 where
  pub spent : IsSpent setting start conflicts
  pub after : spent.commands ≡ n

-- A schedule that has come so far spends the conflicts of a mode. Where the run of the next turn looks, before it has carried out its
-- slice, they are spent. Or the turn leads to the next course, from which the schedule spends them.
pub data SpendsFrom (slots : List Slot) (start : List Literal) : Course → ℕ → Type 0 where
  spends_here : (c : Course) (turn : Entry ℕ) (slot : Slot) (k conflicts : ℕ) → IsNextTurn slots c turn slot → k < slot.slice
      → IsSpentAt slot.setting start (done_by c turn + k) conflicts
      → SpendsFrom slots start c conflicts
  spends_later : (c next : Course) (conflicts : ℕ) → LeadsTo slots start c next → SpendsFrom slots start next conflicts
      → SpendsFrom slots start c conflicts

-- the schedule of these runs spends the conflicts of a mode
abbrev pub Spends : List Slot → List Literal → ℕ → Type 0
Spends slots start conflicts = SpendsFrom slots start (opened slots) conflicts

-- how a schedule ends, or where the conflicts of a mode ended it
abbrev pub EndsWith : List Slot → List Literal → Ended → Type 0
EndsWith slots start (Closed block total) = ScheduleEnds slots start (closed block total)
EndsWith slots start (Empty total) = ScheduleEnds slots start (empty total)
EndsWith slots start (Limit total) = ScheduleEnds slots start (limit total)
EndsWith slots start (Spent conflicts) = Spends slots start conflicts

-- The run of the slot of this number is proved after so many commands; it is there, and is left so.
pub record IsLeft {S : Type 0} (Left : Setting → ℕ → S → Type 0) (slots : List Slot) (start : List Literal) (runs : List (Option S))
    (number : ℕ) : Type 0 where
  pub slot : Slot
  pub its_slot : slice_get slots number ≡ Some slot
  pub commands : ℕ
  pub proved : IsProved slot.setting start commands
  pub run : S
  pub its_run : slice_get runs number ≡ Some (Some run)
  pub left : Left slot.setting commands run

-- where the schedule is closed, this holds of the number of its run
abbrev pub WhereClosedBy : Ended → (ℕ → Type 0) → Type 0
WhereClosedBy (Closed block total) P = P block
WhereClosedBy ended P = Unit {0}
