-- What a reported end of a schedule means.
use Rattle.std.specs.Prelude.{◌≡◌, ◌↔◌, ℕ, List, Some}
use Rattle.outside.specs.Seen.{Seen}
use Rattle.stt_core.specs.PlainProblem.{PlainProblem}
use Rattle.tableau_calculus.specs.Start.{start}
use Rattle.delta_defs.specs.Unfolding.{unfolded_problem}
use Rattle.mode_schedule.specs.declared.Block.{Block}
use Rattle.mode_schedule.specs.Turns.{End, closed, empty, limit, ScheduleEnds}
use Rattle.mode_schedule.specs.Laws.{IsProvedRun}
use Rattle.mode_schedule.specs.Scheduled.{slots_for}
use Rattle.szs_report.specs.Outcomes.{claim_outcome}
use Rattle.szs_report.specs.declared.outcome.Outcome.{Outcome}
use Rattle.szs_report.specs.declared.outcome.Outcome.TheVariants.{Theorem, Unsatisfiable, GaveUp, CommandLimit}
use Rattle.request_answers.specs.Files.{StatesProblem}
use Rattle.request_answers.specs.Schedules.{IsScheduleBy}
use Rattle.request_answers.specs.Solved.{claim_of}
use Rattle.satallax_top.specs.Headline.{IsProvedOutcome}

-- a proof is reported, or that no command is left, or that the limit of commands is reached
abbrev pub IsOfRuns : Outcome → Type 0
IsOfRuns Theorem = Unit {0}
IsOfRuns Unsatisfiable = Unit {0}
IsOfRuns GaveUp = Unit {0}
IsOfRuns (CommandLimit n) = Unit {0}
IsOfRuns outcome = ⊥

-- the outcome where a schedule over the problem ends so
abbrev pub end_outcome : PlainProblem → End → Outcome
end_outcome p (closed number total) = claim_outcome (claim_of p)
end_outcome p (empty total) = GaveUp
end_outcome p (limit total) = CommandLimit total

-- The file states blocks, and the schedule of their runs over the problem that the files state ends as the outcome says: a proof is
-- reported exactly where the run of some block is proved.
pub record HasScheduleSo (words : List (List ℕ)) (seen : Seen) (file : List ℕ) (outcome : Outcome) : Type 0 where
  pub blocks : List Block
  pub are_blocks : IsScheduleBy seen (Some file) blocks
  pub names : List (List ℕ)
  pub problem : PlainProblem
  pub stated : StatesProblem words seen names problem
  pub end : End
  pub ends : ScheduleEnds (slots_for problem blocks) (start (unfolded_problem problem)) end
  pub is_outcome : outcome ≡ end_outcome problem end
  pub exactly : IsProvedOutcome outcome ↔ ((number : ℕ) × IsProvedRun (slots_for problem blocks) (start (unfolded_problem problem)) number)
