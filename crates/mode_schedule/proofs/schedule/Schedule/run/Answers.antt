use Rattle.std.proofs.Common.{ℕ, arith}
use Rattle.search_spec.specs.State.{Setting}
use Rattle.mode_schedule.proofs.StandLaws.{stands-fresh, fresh-left}
use Rattle.mode_schedule.proofs.schedule.Schedule.run.Goals as goal

pub loop-turns-init : goal.loop-turns-init
loop-turns-init g c =
    let long = fresh-left (λ (setting : Setting) (n : ℕ) (run : g.row.R.Denot). g.R.Run.at run setting (g.M.MakesRuns.start c.args.maker.now) n) (g.M.MakesRuns.slots c.args.maker.now) (g.M.MakesRuns.start c.args.maker.now) _ _ _ _ _ c.requires.fresh in
    record {
      stands = stands-fresh (λ (setting : Setting) (n : ℕ) (run : g.row.R.Denot). g.R.Run.at run setting (g.M.MakesRuns.start c.args.maker.now) n) (g.M.MakesRuns.slots c.args.maker.now) (g.M.MakesRuns.start c.args.maker.now) _ _ _ _ _ c.requires.fresh;
      fewer = omega (arith, long, c.requires.slots.few);
    }
