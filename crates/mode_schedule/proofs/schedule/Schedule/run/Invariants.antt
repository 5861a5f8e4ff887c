use Rattle.std.proofs.Common.{◌≤◌, ◌+◌, ℕ}
use Rattle.search_spec.specs.State.{Setting}
use Rattle.mode_schedule.specs.Internal.Standing.{StandsForCourse, turns_left}
use Rattle.mode_schedule.proofs.schedule.Schedule.run.Given as goal

abbrev pub invariant-loop-turns : goal.invariant-loop-turns
invariant-loop-turns g l =
    record {
      stands : StandsForCourse (λ (setting : Setting) (n : ℕ) (run : g.row.R.Denot). g.R.Run.at run setting (g.M.MakesRuns.start l.maker) n) (g.M.MakesRuns.slots l.maker) (g.M.MakesRuns.start l.maker) l.self.turns.entries l.self.turns.pushes l.self.total l.self.is_exhausted l.self.runs.items;
      fewer : turns_left l.self.total l.self.turns.entries + l._turns ≤ 16000016;
    }
