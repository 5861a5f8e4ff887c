-- Laws of the conflicts of reported proofs.
use Rattle.std.specs.Prelude.{◌≡◌, ◌<◌, ◌≤◌, ℕ, List}
use Rattle.outside.specs.Seen.{Seen}
use Rattle.prover_run.specs.Learning.{PropagatesToFalse, IsLearnedAmong}
use Rattle.szs_report.specs.declared.answer.Answer.TheVariants.{ConflictLimit}
use Rattle.szs_report.specs.declared.outcome.Outcome.{Outcome}
use Rattle.request_answers.specs.Solved.{IsSolved}
use Rattle.satallax_top.specs.Headline.{IsProofReport}

-- where the mode has no conflicts, unit propagation over the clauses of the proof's search reaches a false clause
abbrev pub ProofPropagatesWithoutConflict : Type 0
ProofPropagatesWithoutConflict =
    (words : List (List ℕ)) (seen : Seen) (outcome : Outcome) (written : List ℕ) (report : IsProofReport words seen outcome written)
    → report.mode.conflicts ≡ 0 → PropagatesToFalse report.refuted.proved.state.clauses

-- for the problem and the mode of a proof, a run whose conflicts are spent ends no later
abbrev pub SpentEndsNoLaterThanProof : Type 0
SpentEndsNoLaterThanProof =
    (words : List (List ℕ)) (seen : Seen) (outcome : Outcome) (written : List ℕ) (conflicts : ℕ)
    (report : IsProofReport words seen outcome written) (spent : IsSolved report.nodes report.mode report.problem (ConflictLimit conflicts))
    → spent.commands ≤ report.commands

-- and earlier where all that the proof's run learned, it learned too
abbrev pub SpentEndsBeforeProof : Type 0
SpentEndsBeforeProof =
    (words : List (List ℕ)) (seen : Seen) (outcome : Outcome) (written : List ℕ) (conflicts : ℕ)
    (report : IsProofReport words seen outcome written) (spent : IsSolved report.nodes report.mode report.problem (ConflictLimit conflicts))
    → IsLearnedAmong report.refuted.within.learning spent.spent.learning → spent.commands < report.commands
