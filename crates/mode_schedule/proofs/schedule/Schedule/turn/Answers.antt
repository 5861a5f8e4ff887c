use Rattle.std.proofs.Common.{ℕ, refl, arith}
use Rattle.std.proofs.lemmas.Option.{slice_get_within}
use Rattle.search_spec.specs.State.{Setting}
use Rattle.mode_schedule.proofs.StandLaws.{its-turn, in_runs, held-here, took-fits, took-closed, took-left, took-exhausted, took-stopped, took-spent, took-again, took-fewer, stands-empty, stands-limit}
use Rattle.mode_schedule.proofs.schedule.Schedule.turn.Goals as goal

pub returns-then-self-clause-ended : goal.returns-then-self-clause-ended
returns-then-self-clause-ended g c =
    let start = g.M.MakesRuns.start c.args.maker.now in
    stands-empty (λ (setting : Setting) (n : ℕ) (run : g.row.R.Denot). g.R.Run.at run setting start n) (g.M.MakesRuns.slots c.args.maker.now) start c.args.self.now.turns.entries c.args.self.now.turns.pushes c.args.self.now.total c.args.self.now.runs.items
    (c.in_default.ensures.empty.0 refl) c.args.self.now.is_exhausted c.if-self.true c.requires.stands

pub returns-in_default-clause-ended : goal.returns-in_default-clause-ended
returns-in_default-clause-ended g c =
    let start = g.M.MakesRuns.start c.args.maker.now in
    stands-limit (λ (setting : Setting) (n : ℕ) (run : g.row.R.Denot). g.R.Run.at run setting start n) (g.M.MakesRuns.slots c.args.maker.now) start c.args.self.now.turns.entries c.args.self.now.turns.pushes c.args.self.now.total c.args.self.now.runs.items
    (c.in_default.ensures.empty.0 refl) c.args.self.now.is_exhausted c.if-self.false c.requires.stands

pub index_mut-requires : goal.index_mut-requires
index_mut-requires g c =
    let l = in_runs (λ (setting : Setting) (n : ℕ) (run : g.row.R.Denot). g.R.Run.at run setting (g.M.MakesRuns.start c.args.maker.now) n) (g.M.MakesRuns.slots c.args.maker.now) (g.M.MakesRuns.start c.args.maker.now) _ _ c.in-Some.entry _ _ _ c.requires.stands c.in-Some.ensures.first in
    omega (arith, l, c.args.self.now.runs.ok)

pub turn_at-requires-clause-within : goal.turn_at-requires-clause-within
turn_at-requires-clause-within g c =
    let its = its-turn (λ (setting : Setting) (n : ℕ) (run : g.row.R.Denot). g.R.Run.at run setting (g.M.MakesRuns.start c.args.maker.now) n) (g.M.MakesRuns.slots c.args.maker.now) (g.M.MakesRuns.start c.args.maker.now) _ _ c.in-Some.entry _ _ _ c.requires.stands c.in-Some.ensures.first in
    slice_get_within (g.M.MakesRuns.slots c.args.maker.now) c.in-Some.entry.command.block its.slot its.its_slot

pub turn_at-requires-clause-may : goal.turn_at-requires-clause-may
turn_at-requires-clause-may g c =
    let its = its-turn (λ (setting : Setting) (n : ℕ) (run : g.row.R.Denot). g.R.Run.at run setting (g.M.MakesRuns.start c.args.maker.now) n) (g.M.MakesRuns.slots c.args.maker.now) (g.M.MakesRuns.start c.args.maker.now) _ _ c.in-Some.entry _ _ _ c.requires.stands c.in-Some.ensures.first in
    c.requires.may c.in-Some.entry.command.block (slice_get_within (g.M.MakesRuns.slots c.args.maker.now) c.in-Some.entry.command.block its.slot its.its_slot)

pub turn_at-requires-clause-held : goal.turn_at-requires-clause-held
turn_at-requires-clause-held g c =
    let its = its-turn (λ (setting : Setting) (n : ℕ) (run : g.row.R.Denot). g.R.Run.at run setting (g.M.MakesRuns.start c.args.maker.now) n) (g.M.MakesRuns.slots c.args.maker.now) (g.M.MakesRuns.start c.args.maker.now) _ _ c.in-Some.entry _ _ _ c.requires.stands c.in-Some.ensures.first in
    (its.slot, _, its.its_slot, held-here (λ (setting : Setting) (n : ℕ) (run : g.row.R.Denot). g.R.Run.at run setting (g.M.MakesRuns.start c.args.maker.now) n) (g.M.MakesRuns.slots c.args.maker.now) (g.M.MakesRuns.start c.args.maker.now) _ _ c.in-Some.entry _ _ _ c.requires.stands c.in-Some.ensures.first c.index_mut.result.now c.index_mut.ensures.value)

pub overflow_add-self : goal.overflow_add-self
overflow_add-self g c =
    let its = its-turn (λ (setting : Setting) (n : ℕ) (run : g.row.R.Denot). g.R.Run.at run setting (g.M.MakesRuns.start c.args.maker.now) n) (g.M.MakesRuns.slots c.args.maker.now) (g.M.MakesRuns.start c.args.maker.now) _ _ c.in-Some.entry _ _ _ c.requires.stands c.in-Some.ensures.first in
    let held = held-here (λ (setting : Setting) (n : ℕ) (run : g.row.R.Denot). g.R.Run.at run setting (g.M.MakesRuns.start c.args.maker.now) n) (g.M.MakesRuns.slots c.args.maker.now) (g.M.MakesRuns.start c.args.maker.now) _ _ c.in-Some.entry _ _ _ c.requires.stands c.in-Some.ensures.first c.index_mut.result.now c.index_mut.ensures.value in
    let t = c.in_ok-took.ensures its.slot _ its.its_slot held in
    let l = took-fits (λ (setting : Setting) (n : ℕ) (run : g.row.R.Denot). g.R.Run.at run setting (g.M.MakesRuns.start c.args.maker.now) n) (g.M.MakesRuns.slots c.args.maker.now) (g.M.MakesRuns.start c.args.maker.now) _ _ c.in-Some.entry _ _ _ c.requires.stands c.in-Some.ensures.first
    (λ (setting : Setting) (n : ℕ) (run : g.row.R.Denot). g.R.Run.left run setting (g.M.MakesRuns.start c.args.maker.now) n) c.requires.slots c.in_ok-took.took.turned _ c.in_ok-took.took.commands t in
    omega (arith, l)

pub returns-in-Closed-clause-ended : goal.returns-in-Closed-clause-ended
returns-in-Closed-clause-ended g c =
    let its = its-turn (λ (setting : Setting) (n : ℕ) (run : g.row.R.Denot). g.R.Run.at run setting (g.M.MakesRuns.start c.args.maker.now) n) (g.M.MakesRuns.slots c.args.maker.now) (g.M.MakesRuns.start c.args.maker.now) _ _ c.in-Some.entry _ _ _ c.requires.stands c.in-Some.ensures.first in
    let held = held-here (λ (setting : Setting) (n : ℕ) (run : g.row.R.Denot). g.R.Run.at run setting (g.M.MakesRuns.start c.args.maker.now) n) (g.M.MakesRuns.slots c.args.maker.now) (g.M.MakesRuns.start c.args.maker.now) _ _ c.in-Some.entry _ _ _ c.requires.stands c.in-Some.ensures.first c.index_mut.result.now c.index_mut.ensures.value in
    let t = c.in_ok-took.ensures its.slot _ its.its_slot held in
    took-closed (λ (setting : Setting) (n : ℕ) (run : g.row.R.Denot). g.R.Run.at run setting (g.M.MakesRuns.start c.args.maker.now) n) (g.M.MakesRuns.slots c.args.maker.now) (g.M.MakesRuns.start c.args.maker.now) _ _ c.in-Some.entry _ _ _ c.requires.stands c.in-Some.ensures.first
    (λ (setting : Setting) (n : ℕ) (run : g.row.R.Denot). g.R.Run.left run setting (g.M.MakesRuns.start c.args.maker.now) n) c.requires.slots c.in_ok-took.took.turned _ c.in_ok-took.took.commands t c.in-Closed.is

pub returns-in-Closed-clause-closed : goal.returns-in-Closed-clause-closed
returns-in-Closed-clause-closed g c =
    let its = its-turn (λ (setting : Setting) (n : ℕ) (run : g.row.R.Denot). g.R.Run.at run setting (g.M.MakesRuns.start c.args.maker.now) n) (g.M.MakesRuns.slots c.args.maker.now) (g.M.MakesRuns.start c.args.maker.now) _ _ c.in-Some.entry _ _ _ c.requires.stands c.in-Some.ensures.first in
    let held = held-here (λ (setting : Setting) (n : ℕ) (run : g.row.R.Denot). g.R.Run.at run setting (g.M.MakesRuns.start c.args.maker.now) n) (g.M.MakesRuns.slots c.args.maker.now) (g.M.MakesRuns.start c.args.maker.now) _ _ c.in-Some.entry _ _ _ c.requires.stands c.in-Some.ensures.first c.index_mut.result.now c.index_mut.ensures.value in
    let t = c.in_ok-took.ensures its.slot _ its.its_slot held in
    took-left (λ (setting : Setting) (n : ℕ) (run : g.row.R.Denot). g.R.Run.at run setting (g.M.MakesRuns.start c.args.maker.now) n) (g.M.MakesRuns.slots c.args.maker.now) (g.M.MakesRuns.start c.args.maker.now) _ _ c.in-Some.entry _ _ _ c.requires.stands c.in-Some.ensures.first
    (λ (setting : Setting) (n : ℕ) (run : g.row.R.Denot). g.R.Run.left run setting (g.M.MakesRuns.start c.args.maker.now) n) c.requires.slots c.in_ok-took.took.turned _ c.in_ok-took.took.commands t c.in-Closed.is

pub returns-in-HasNoneLeft-clause-goes_on : goal.returns-in-HasNoneLeft-clause-goes_on
returns-in-HasNoneLeft-clause-goes_on g c =
    let its = its-turn (λ (setting : Setting) (n : ℕ) (run : g.row.R.Denot). g.R.Run.at run setting (g.M.MakesRuns.start c.args.maker.now) n) (g.M.MakesRuns.slots c.args.maker.now) (g.M.MakesRuns.start c.args.maker.now) _ _ c.in-Some.entry _ _ _ c.requires.stands c.in-Some.ensures.first in
    let held = held-here (λ (setting : Setting) (n : ℕ) (run : g.row.R.Denot). g.R.Run.at run setting (g.M.MakesRuns.start c.args.maker.now) n) (g.M.MakesRuns.slots c.args.maker.now) (g.M.MakesRuns.start c.args.maker.now) _ _ c.in-Some.entry _ _ _ c.requires.stands c.in-Some.ensures.first c.index_mut.result.now c.index_mut.ensures.value in
    let t = c.in_ok-took.ensures its.slot _ its.its_slot held in
    took-exhausted (λ (setting : Setting) (n : ℕ) (run : g.row.R.Denot). g.R.Run.at run setting (g.M.MakesRuns.start c.args.maker.now) n) (g.M.MakesRuns.slots c.args.maker.now) (g.M.MakesRuns.start c.args.maker.now) _ _ c.in-Some.entry _ _ _ c.requires.stands c.in-Some.ensures.first
    (λ (setting : Setting) (n : ℕ) (run : g.row.R.Denot). g.R.Run.left run setting (g.M.MakesRuns.start c.args.maker.now) n) c.requires.slots c.in_ok-took.took.turned _ c.in_ok-took.took.commands t c.in-HasNoneLeft.is

pub returns-in-IsAtLimit-clause-goes_on : goal.returns-in-IsAtLimit-clause-goes_on
returns-in-IsAtLimit-clause-goes_on g c =
    let its = its-turn (λ (setting : Setting) (n : ℕ) (run : g.row.R.Denot). g.R.Run.at run setting (g.M.MakesRuns.start c.args.maker.now) n) (g.M.MakesRuns.slots c.args.maker.now) (g.M.MakesRuns.start c.args.maker.now) _ _ c.in-Some.entry _ _ _ c.requires.stands c.in-Some.ensures.first in
    let held = held-here (λ (setting : Setting) (n : ℕ) (run : g.row.R.Denot). g.R.Run.at run setting (g.M.MakesRuns.start c.args.maker.now) n) (g.M.MakesRuns.slots c.args.maker.now) (g.M.MakesRuns.start c.args.maker.now) _ _ c.in-Some.entry _ _ _ c.requires.stands c.in-Some.ensures.first c.index_mut.result.now c.index_mut.ensures.value in
    let t = c.in_ok-took.ensures its.slot _ its.its_slot held in
    took-stopped (λ (setting : Setting) (n : ℕ) (run : g.row.R.Denot). g.R.Run.at run setting (g.M.MakesRuns.start c.args.maker.now) n) (g.M.MakesRuns.slots c.args.maker.now) (g.M.MakesRuns.start c.args.maker.now) _ _ c.in-Some.entry _ _ _ c.requires.stands c.in-Some.ensures.first
    (λ (setting : Setting) (n : ℕ) (run : g.row.R.Denot). g.R.Run.left run setting (g.M.MakesRuns.start c.args.maker.now) n) c.requires.slots c.in_ok-took.took.turned _ c.in_ok-took.took.commands t c.in-IsAtLimit.is

pub returns-in-Spent-clause-ended : goal.returns-in-Spent-clause-ended
returns-in-Spent-clause-ended g c =
    let its = its-turn (λ (setting : Setting) (n : ℕ) (run : g.row.R.Denot). g.R.Run.at run setting (g.M.MakesRuns.start c.args.maker.now) n) (g.M.MakesRuns.slots c.args.maker.now) (g.M.MakesRuns.start c.args.maker.now) _ _ c.in-Some.entry _ _ _ c.requires.stands c.in-Some.ensures.first in
    let held = held-here (λ (setting : Setting) (n : ℕ) (run : g.row.R.Denot). g.R.Run.at run setting (g.M.MakesRuns.start c.args.maker.now) n) (g.M.MakesRuns.slots c.args.maker.now) (g.M.MakesRuns.start c.args.maker.now) _ _ c.in-Some.entry _ _ _ c.requires.stands c.in-Some.ensures.first c.index_mut.result.now c.index_mut.ensures.value in
    let t = c.in_ok-took.ensures its.slot _ its.its_slot held in
    took-spent (λ (setting : Setting) (n : ℕ) (run : g.row.R.Denot). g.R.Run.at run setting (g.M.MakesRuns.start c.args.maker.now) n) (g.M.MakesRuns.slots c.args.maker.now) (g.M.MakesRuns.start c.args.maker.now) _ _ c.in-Some.entry _ _ _ c.requires.stands c.in-Some.ensures.first
    (λ (setting : Setting) (n : ℕ) (run : g.row.R.Denot). g.R.Run.left run setting (g.M.MakesRuns.start c.args.maker.now) n) c.requires.slots c.in_ok-took.took.turned _ c.in_ok-took.took.commands t c.in-Spent.conflicts c.in-Spent.is

pub returns-in_ok-push-in-Paused-clause-goes_on : goal.returns-in_ok-push-in-Paused-clause-goes_on
returns-in_ok-push-in-Paused-clause-goes_on g c =
    let its = its-turn (λ (setting : Setting) (n : ℕ) (run : g.row.R.Denot). g.R.Run.at run setting (g.M.MakesRuns.start c.args.maker.now) n) (g.M.MakesRuns.slots c.args.maker.now) (g.M.MakesRuns.start c.args.maker.now) _ _ c.in-Some.entry _ _ _ c.requires.stands c.in-Some.ensures.first in
    let held = held-here (λ (setting : Setting) (n : ℕ) (run : g.row.R.Denot). g.R.Run.at run setting (g.M.MakesRuns.start c.args.maker.now) n) (g.M.MakesRuns.slots c.args.maker.now) (g.M.MakesRuns.start c.args.maker.now) _ _ c.in-Some.entry _ _ _ c.requires.stands c.in-Some.ensures.first c.index_mut.result.now c.index_mut.ensures.value in
    let t = c.in_ok-took.ensures its.slot _ its.its_slot held in
    took-again (λ (setting : Setting) (n : ℕ) (run : g.row.R.Denot). g.R.Run.at run setting (g.M.MakesRuns.start c.args.maker.now) n) (g.M.MakesRuns.slots c.args.maker.now) (g.M.MakesRuns.start c.args.maker.now) _ _ c.in-Some.entry _ _ _ c.requires.stands c.in-Some.ensures.first
    (λ (setting : Setting) (n : ℕ) (run : g.row.R.Denot). g.R.Run.left run setting (g.M.MakesRuns.start c.args.maker.now) n) c.requires.slots c.in_ok-took.took.turned _ c.in_ok-took.took.commands t c.in-Paused.is c.push.new.self c.in_ok-push-in-Paused.ensures.ok

pub returns-in_ok-push-in-Paused-clause-fewer : goal.returns-in_ok-push-in-Paused-clause-fewer
returns-in_ok-push-in-Paused-clause-fewer g c =
    let its = its-turn (λ (setting : Setting) (n : ℕ) (run : g.row.R.Denot). g.R.Run.at run setting (g.M.MakesRuns.start c.args.maker.now) n) (g.M.MakesRuns.slots c.args.maker.now) (g.M.MakesRuns.start c.args.maker.now) _ _ c.in-Some.entry _ _ _ c.requires.stands c.in-Some.ensures.first in
    let held = held-here (λ (setting : Setting) (n : ℕ) (run : g.row.R.Denot). g.R.Run.at run setting (g.M.MakesRuns.start c.args.maker.now) n) (g.M.MakesRuns.slots c.args.maker.now) (g.M.MakesRuns.start c.args.maker.now) _ _ c.in-Some.entry _ _ _ c.requires.stands c.in-Some.ensures.first c.index_mut.result.now c.index_mut.ensures.value in
    let t = c.in_ok-took.ensures its.slot _ its.its_slot held in
    took-fewer (λ (setting : Setting) (n : ℕ) (run : g.row.R.Denot). g.R.Run.at run setting (g.M.MakesRuns.start c.args.maker.now) n) (g.M.MakesRuns.slots c.args.maker.now) (g.M.MakesRuns.start c.args.maker.now) _ _ c.in-Some.entry _ _ _ c.requires.stands c.in-Some.ensures.first
    (λ (setting : Setting) (n : ℕ) (run : g.row.R.Denot). g.R.Run.left run setting (g.M.MakesRuns.start c.args.maker.now) n) c.requires.slots c.in_ok-took.took.turned _ c.in_ok-took.took.commands t c.in-Paused.is c.push.new.self c.in_ok-push-in-Paused.ensures.ok
