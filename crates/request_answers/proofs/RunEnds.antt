-- The answer to a run, or to a schedule of runs, is the same, but for the refutation, where no conflicts are spent.
use Rattle.std.proofs.Common.{◌≡◌, ◌+◌, ℕ, List, Option, Some, None, [], ap, ap₂, sym, refl, ◌∙◌}
use Rattle.stt_core.specs.PlainProblem.{PlainProblem}
use Rattle.tableau_calculus.specs.Start.{start}
use Rattle.search_spec.specs.Result.{Result, proved, gave_up, stopped, IsResult}
use Rattle.search_spec.proofs.ResultLaws.{one_result}
use Rattle.mode_file.specs.declared.Mode.{Mode}
use Rattle.delta_defs.specs.Unfolding.{unfolded_problem}
use Rattle.prover_run.specs.Ended.{setting_for}
use Rattle.mode_schedule.specs.declared.Block.{Block}
use Rattle.mode_schedule.specs.Turns.{opened, End, closed, empty, limit, ScheduleEnds}
use Rattle.mode_schedule.specs.Scheduled.{slots_for}
use Rattle.mode_schedule.proofs.EndLaws.{one_end}
use Rattle.szs_report.specs.Outcomes.{without_refutation}
use Rattle.szs_report.specs.declared.answer.TreeReport.TheVariants.{Unasked}
use Rattle.szs_report.specs.declared.answer.Answer.{Answer}
use Rattle.szs_report.specs.declared.answer.Answer.TheVariants.{Proved, DemoDone, GaveUp, CommandLimit, ConflictLimit, Memory}
use Rattle.request_answers.specs.Solved.{claim_of, IsSolved, IsSolvedInTurns, IsDemoed}
use Rattle.request_answers.specs.Answers.{IsSettled}

-- what a run with this result is answered with, but for the refutation
abbrev told : PlainProblem → Result → Answer
told p (proved n) = Proved (claim_of p) n None Unasked []
told p (gave_up n) = GaveUp n
told p (stopped n) = CommandLimit n

record IsEnd (m : Mode) (p : PlainProblem) (a : Answer) : Type 0 where
  pub result : Result
  pub is_result : IsResult (setting_for p m) (start (unfolded_problem p)) result
  pub is : without_refutation a ≡ told p result

end_of : (nodes : Option ℕ) (m : Mode) (p : PlainProblem) (a : Answer) → IsSettled a → IsSolved nodes m p a → IsEnd m p a
end_of nodes m p Memory w h = absurd w
end_of nodes m p (ConflictLimit c) w h = absurd w
end_of nodes m p (Proved claim n mode tree text) w h = record { result = proved n; is_result = h.2.refuted.proved; is = ap₂ (λ c i. Proved c n i Unasked []) h.0 h.1 }
end_of nodes m p (GaveUp n) w h = record { result = gave_up n; is_result = h; is = refl }
end_of nodes m p (CommandLimit n) w h = record { result = stopped n; is_result = h; is = refl }
end_of nodes m p a w h = absurd h

same_ends : (m : Mode) (p : PlainProblem) (a b : Answer) → IsEnd m p a → IsEnd m p b → without_refutation a ≡ without_refutation b
same_ends m p a b e f = e.is ∙ ap (told p) (one_result (setting_for p m) (start (unfolded_problem p)) e.result f.result e.is_result f.is_result) ∙ sym f.is

pub solved-same : (nodes : Option ℕ) (m : Mode) (p : PlainProblem) (a b : Answer) → IsSettled a → IsSettled b → IsSolved nodes m p a → IsSolved nodes m p b → without_refutation a ≡ without_refutation b
solved-same nodes m p a b w v h k = same_ends m p a b (end_of nodes m p a w h) (end_of nodes m p b v k)

-- what a schedule that ends so is answered with, but for the refutation
abbrev told_end : PlainProblem → End → Answer
told_end p (closed number total) = Proved (claim_of p) total (Some (number + 1)) Unasked []
told_end p (empty total) = GaveUp total
told_end p (limit total) = CommandLimit total

pub record IsEndInTurns (blocks : List Block) (p : PlainProblem) (a : Answer) : Type 0 where
  pub end : End
  pub ends : ScheduleEnds (slots_for p blocks) (start (unfolded_problem p)) end
  pub is : without_refutation a ≡ told_end p end

pub end_in_turns : (blocks : List Block) (p : PlainProblem) (a : Answer) → IsSettled a → IsSolvedInTurns blocks p a → IsEndInTurns blocks p a
end_in_turns blocks p Memory w h = absurd w
end_in_turns blocks p (ConflictLimit c) w h = absurd w
end_in_turns blocks p (Proved claim n mode tree text) w h = record { end = closed h.2.number n; ends = h.2.closes; is = ap₂ (λ c i. Proved c n i Unasked []) h.0 h.2.is_told }
end_in_turns blocks p (GaveUp n) w h = record { end = empty n; ends = h; is = refl }
end_in_turns blocks p (CommandLimit n) w h = record { end = limit n; ends = h; is = refl }
end_in_turns blocks p a w h = absurd h

pub turns-same : (blocks : List Block) (p : PlainProblem) (a b : Answer) → IsSettled a → IsSettled b → IsSolvedInTurns blocks p a → IsSolvedInTurns blocks p b → without_refutation a ≡ without_refutation b
turns-same blocks p a b w v h k =
    let e = end_in_turns blocks p a w h in
    let f = end_in_turns blocks p b v k in
    e.is ∙ ap (told_end p) (one_end (slots_for p blocks) (start (unfolded_problem p)) (opened (slots_for p blocks)) e.end f.end e.ends f.ends) ∙ sym f.is

-- what a generated problem is answered with, by its run
abbrev shown : Answer → Answer
shown (Proved claim n mode tree text) = DemoDone claim n
shown a = a

record IsDemoEnd (m : Mode) (p : PlainProblem) (a : Answer) : Type 0 where
  pub solved : Answer
  pub settled : IsSettled solved
  pub is_solved : IsSolved None m p solved
  pub is : without_refutation a ≡ shown (without_refutation solved)

demo_end : (m : Mode) (p : PlainProblem) (a : Answer) → IsSettled a → IsDemoed m p a → IsDemoEnd m p a
demo_end m p Memory w h = absurd w
demo_end m p (ConflictLimit c) w h = absurd w
demo_end m p (DemoDone claim n) w h = record { solved = Proved claim n None h.0 h.1; settled = tt; is_solved = h.2; is = refl }
demo_end m p (Proved claim n mode tree text) w h = absurd h
demo_end m p (GaveUp n) w h = record { solved = GaveUp n; settled = tt; is_solved = h; is = refl }
demo_end m p (CommandLimit n) w h = record { solved = CommandLimit n; settled = tt; is_solved = h; is = refl }
demo_end m p a w h = absurd h

pub demoed-same : (m : Mode) (p : PlainProblem) (a b : Answer) → IsSettled a → IsSettled b → IsDemoed m p a → IsDemoed m p b → without_refutation a ≡ without_refutation b
demoed-same m p a b w v h k =
    let e = demo_end m p a w h in
    let f = demo_end m p b v k in
    e.is ∙ ap shown (solved-same None m p e.solved f.solved e.settled f.settled e.is_solved f.is_solved) ∙ sym f.is
