-- How the schedule of blocks over a problem ends.
use Rattle.std.specs.Prelude.{◌≡◌, ℕ, List, map, slice_get, Some}
use Rattle.stt_core.specs.PlainProblem.{PlainProblem}
use Rattle.tableau_calculus.specs.Start.{start}
use Rattle.tableau_calculus.specs.declared.refutation.Refutation.{Refutation}
use Rattle.prover_run.specs.Ended.{setting_for, IsRefuted}
use Rattle.mode_schedule.specs.declared.Block.{Block}
use Rattle.mode_schedule.specs.declared.scheduled.Scheduled.{Scheduled}
use Rattle.mode_schedule.specs.declared.scheduled.Scheduled.TheVariants.{Closed, Empty, Limit, Spent}
use Rattle.mode_schedule.specs.Turns.{Slot, closed, empty, limit, ScheduleEnds}
use Rattle.mode_schedule.specs.Ends.{Spends}

-- the run of a block over the problem
abbrev pub slot_for : PlainProblem → Block → Slot
slot_for p block = record { slice = block.slice; setting = setting_for p block.mode }

abbrev pub slots_for : PlainProblem → List Block → List Slot
slots_for p blocks = map (slot_for p) blocks

-- the run over the problem by the mode of the block of this number is proved after some number of commands, with this refutation
pub record IsRefutedIn (p : PlainProblem) (blocks : List Block) (number : ℕ) (refutation : Refutation) : Type 0 where
  pub block : Block
  pub its_block : slice_get blocks number ≡ Some block
  pub commands : ℕ
  pub refuted : IsRefuted p block.mode commands refutation

-- how the schedule of the blocks over the problem ends, where it is closed with the refutation of the run that closes it
abbrev pub EndsBy : PlainProblem → List Block → Scheduled → Type 0
EndsBy p blocks (Closed block total refutation) =
    ScheduleEnds (slots_for p blocks) (start p) (closed block total) × IsRefutedIn p blocks block refutation
EndsBy p blocks (Empty total) = ScheduleEnds (slots_for p blocks) (start p) (empty total)
EndsBy p blocks (Limit total) = ScheduleEnds (slots_for p blocks) (start p) (limit total)
EndsBy p blocks (Spent conflicts) = Spends (slots_for p blocks) (start p) conflicts
