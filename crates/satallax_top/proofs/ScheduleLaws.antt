-- What is reported of a schedule has the meaning that it claims.
use Rattle.std.proofs.Common.{◌≡◌, ◌↔◌, ℕ, List, Some, refl, sym, ap, subst}
use Rattle.outside.specs.Seen.{Seen}
use Rattle.stt_core.specs.PlainProblem.{PlainProblem}
use Rattle.tableau_calculus.specs.Start.{start}
use Rattle.tableau_calculus.specs.Literals.{Literal}
use Rattle.delta_defs.specs.Unfolding.{unfolded_problem}
use Rattle.mode_schedule.specs.declared.Block.{Block}
use Rattle.mode_schedule.specs.Turns.{Slot, End, closed, empty, limit, ScheduleEnds}
use Rattle.mode_schedule.specs.Laws.{IsProvedRun, IsClosedEnd}
use Rattle.mode_schedule.specs.Scheduled.{slots_for}
use Rattle.mode_schedule.proofs.EndLaws.{closed_exactly}
use Rattle.cli_words.specs.Requests.{Request, by_schedule, asked_by}
use Rattle.szs_report.specs.Outcomes.{claim_outcome, outcome_of}
use Rattle.szs_report.specs.declared.answer.Answer.{Answer}
use Rattle.szs_report.specs.declared.answer.Answer.TheVariants.{Proved, GaveUp, CommandLimit, SyntaxAt, TypeAt, IncludeAt, TooLong, ReadFault}
use Rattle.szs_report.specs.declared.answer.Claim.{Claim}
use Rattle.szs_report.specs.declared.answer.Claim.TheVariants.{Theorem, Unsatisfiable}
use Rattle.szs_report.specs.declared.outcome.Outcome.{Outcome}
use Rattle.request_answers.specs.Files.{OfAsked, Statements}
use Rattle.request_answers.specs.Solved.{claim_of, IsSolvedInTurns}
use Rattle.request_answers.specs.Answers.{AnswersFiles, AnswersAsked, IsAnswer}
use Rattle.satallax_top.specs.Headline.{IsProvedOutcome}
use Rattle.satallax_top.specs.Scheduling.{IsOfRuns, end_outcome, HasScheduleSo}
use Rattle.satallax_top.proofs.HeadlineLaws.{IsRefusal, FilesAnswered, files_answered}

-- such an answer is given by files
of_runs-files : (r : Request) (seen : Seen) (a : Answer) → IsOfRuns (outcome_of a) → AnswersAsked (Some r) seen a → AnswersFiles r seen a
of_runs-files r seen (Proved Theorem n i tree text) s h = h
of_runs-files r seen (Proved Unsatisfiable n i tree text) s h = h
of_runs-files r seen (GaveUp n) s h = h
of_runs-files r seen (CommandLimit n) s h = h
of_runs-files r seen a s h = absurd s

of_runs-no_refusal : (a : Answer) → IsOfRuns (outcome_of a) → IsRefusal a → ⊥
of_runs-no_refusal (ReadFault file) s x = s
of_runs-no_refusal (TooLong file) s x = s
of_runs-no_refusal (SyntaxAt file at) s x = s
of_runs-no_refusal (IncludeAt file at why) s x = s
of_runs-no_refusal (TypeAt file at why) s x = s
of_runs-no_refusal a s x = x

-- how the schedule ends that is answered so
record IsEndTold (blocks : List Block) (p : PlainProblem) (a : Answer) : Type 0 where
  end : End
  ends : ScheduleEnds (slots_for p blocks) (start (unfolded_problem p)) end
  is : outcome_of a ≡ end_outcome p end

end_of_answer : (blocks : List Block) (p : PlainProblem) (a : Answer) → IsOfRuns (outcome_of a) → IsSolvedInTurns blocks p a → IsEndTold blocks p a
end_of_answer blocks p (Proved Theorem n i tree text) s h = record { end = closed h.2.number n; ends = h.2.closes; is = ap claim_outcome h.0 }
end_of_answer blocks p (Proved Unsatisfiable n i tree text) s h = record { end = closed h.2.number n; ends = h.2.closes; is = ap claim_outcome h.0 }
end_of_answer blocks p (GaveUp n) s h = record { end = empty n; ends = h; is = refl }
end_of_answer blocks p (CommandLimit n) s h = record { end = limit n; ends = h; is = refl }
end_of_answer blocks p a s h = absurd s

-- a proof is told where the schedule is closed, and nowhere else
claim_proved : (c : Claim) → IsProvedOutcome (claim_outcome c)
claim_proved Theorem = tt
claim_proved Unsatisfiable = tt

proved_closed : (p : PlainProblem) (e : End) → IsProvedOutcome (end_outcome p e) → IsClosedEnd e
proved_closed p (closed number total) h = (number, total, refl)
proved_closed p (empty total) h = absurd h
proved_closed p (limit total) h = absurd h

closed_told : (p : PlainProblem) (e : End) → IsClosedEnd e → IsProvedOutcome (end_outcome p e)
closed_told p e h = subst (λ x. IsProvedOutcome (end_outcome p x)) (sym h.2) (claim_proved (claim_of p))

proved_exactly : (p : PlainProblem) (slots : List Slot) (literals : List Literal) (e : End) → ScheduleEnds slots literals e → IsProvedOutcome (end_outcome p e) ↔ ((number : ℕ) × IsProvedRun slots literals number)
proved_exactly p slots literals e ends =
    let exactly = closed_exactly slots literals e ends in
    (λ h. exactly.0 (proved_closed p e h), λ h. closed_told p e (exactly.1 h))

-- files that are answered so
schedule_of : (words : List (List ℕ)) (seen : Seen) (a : Answer) (file problem : List ℕ) → asked_by words ≡ Some (by_schedule file problem) → IsOfRuns (outcome_of a) → FilesAnswered (by_schedule file problem) seen a → HasScheduleSo words seen file (outcome_of a)
schedule_of words seen a file problem asked s f =
    let p = f.problem in
    let e = end_of_answer f.blocks p a s f.answered in
    record {
      blocks = f.blocks;
      are_blocks = f.are_blocks;
      names = f.names;
      problem = p;
      stated = subst (λ x. OfAsked x seen f.names (Statements p)) (sym asked) f.stated;
      end = e.end;
      ends = e.ends;
      is_outcome = e.is;
      exactly = subst (λ o. IsProvedOutcome o ↔ ((number : ℕ) × IsProvedRun (slots_for p f.blocks) (start (unfolded_problem p)) number)) (sym e.is) (proved_exactly p (slots_for p f.blocks) (start (unfolded_problem p)) e.end e.ends);
    }

pub schedule_told : (words : List (List ℕ)) (seen : Seen) (o : Outcome) (a : Answer) → IsAnswer words seen a → o ≡ outcome_of a → (file problem : List ℕ) → asked_by words ≡ Some (by_schedule file problem) → IsOfRuns o → HasScheduleSo words seen file o
schedule_told words seen o a answer is file problem asked h =
    let s : IsOfRuns (outcome_of a) = subst IsOfRuns is h in
    let files = of_runs-files (by_schedule file problem) seen a s (subst (λ x. AnswersAsked x seen a) asked answer) in
    subst (HasScheduleSo words seen file) (sym is) (schedule_of words seen a file problem asked s (files_answered (by_schedule file problem) seen a (of_runs-no_refusal a s) files))
