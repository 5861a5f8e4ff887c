-- What the run over a problem is answered with.
use Rattle.std.specs.Prelude.{◌≡◌, ◌+◌, ℕ, List, filter, slice_get, Option, Some, None}
use Rattle.stt_core.specs.Lambda.{Lambda}
use Rattle.stt_core.specs.Declarations.{scope_of}
use Rattle.stt_core.specs.PlainProblem.{PlainProblem}
use Rattle.tableau_calculus.specs.Start.{start}
use Rattle.tableau_calculus.specs.declared.refutation.Refutation.{Refutation}
use Rattle.search_spec.specs.Result.{IsExhausted, IsStopped}
use Rattle.search_spec.specs.Shallow.{is_shallow_literal}
use Rattle.mode_file.specs.declared.Mode.{Mode}
use Rattle.delta_defs.specs.Unfolding.{taken_names, unfolded_problem}
use Rattle.plain_tableau.specs.declared.stripped.Stripped.{Stripped}
use Rattle.plain_tableau.specs.declared.stripped.Stripped.TheVariants as stripped
use Rattle.prover_run.specs.Ended.{setting_for, IsRefuted, IsSpent}
use Rattle.prover_run.specs.Tree.{IsTreeAsked}
use Rattle.mode_schedule.specs.declared.Block.{Block}
use Rattle.mode_schedule.specs.Turns.{closed, empty, limit, ScheduleEnds}
use Rattle.mode_schedule.specs.Ends.{Spends}
use Rattle.mode_schedule.specs.Scheduled.{slots_for}
use Rattle.refute_print.specs.Text.{text_lines, as_bytes}
use Rattle.refute_print.specs.Named.{named_refutation}
use Rattle.refute_text.specs.Reading.{HasText}
use Rattle.refute_check.specs.Numbered.{numbered_refutation}
use Rattle.szs_report.specs.declared.answer.Answer.{Answer}
use Rattle.szs_report.specs.declared.answer.Answer.TheVariants.{Proved, DemoDone, GaveUp, CommandLimit, ConflictLimit, Memory}
use Rattle.szs_report.specs.declared.answer.TreeReport.{TreeReport}
use Rattle.szs_report.specs.declared.answer.TreeReport.TheVariants.{Unasked, Tree, Open, Over}
use Rattle.szs_report.specs.declared.answer.Claim.{Claim}
use Rattle.szs_report.specs.declared.answer.Claim.TheVariants as claims
use Rattle.request_answers.specs.Names.{names_in}

-- the refutation that is written: that of a tree, where one is asked for and comes of the run's refutation, and else the run's
abbrev pub reported_refutation : Refutation → Option Stripped → Refutation
reported_refutation rebuilt None = rebuilt
reported_refutation rebuilt (Some (stripped.Tree tree nodes)) = tree
reported_refutation rebuilt (Some (stripped.Open branch)) = rebuilt
reported_refutation rebuilt (Some (stripped.Over nodes)) = rebuilt

-- what is told of a tree
abbrev pub tree_told : Option Stripped → TreeReport
tree_told None = Unasked
tree_told (Some (stripped.Tree tree nodes)) = Tree nodes
tree_told (Some (stripped.Open branch)) = Open
tree_told (Some (stripped.Over nodes)) = Over nodes

-- The run over the unfolded problem is proved after n commands, as a refutation shows, and where a tree is asked for, this is told of it.
-- What is written has a text with the names of the definitions that are taken, which is this one, and the text has it: the numbers of the
-- names of what is declared are those from which the names came.
pub record IsProofOf (nodes : Option ℕ) (m : Mode) (p : PlainProblem) (n : ℕ) (tree : TreeReport) (text : List ℕ) : Type 0 where
  pub rebuilt : Refutation
  pub refuted : IsRefuted (unfolded_problem p) m n rebuilt
  pub stripped : Option Stripped
  pub asked :
      IsTreeAsked (scope_of p.declared) (start (unfolded_problem p)) (filter is_shallow_literal (start (unfolded_problem p)))
      refuted.shortly.input nodes stripped
  pub is_told : tree ≡ tree_told stripped
  pub refutation : Refutation
  pub is_written : refutation ≡ reported_refutation rebuilt stripped
  pub is_text : text ≡ as_bytes (text_lines (named_refutation (names_in p) (taken_names p) refutation))
  pub has_text : HasText (named_refutation (names_in p) (taken_names p) refutation)
  pub numbered : numbered_refutation (names_in p) (named_refutation (names_in p) (taken_names p) refutation) ≡ refutation

-- what a refutation shows of a problem with this conjecture, or with none
abbrev pub claim_by : Option Lambda → Claim
claim_by None = claims.Unsatisfiable
claim_by (Some conjecture) = claims.Theorem

abbrev pub claim_of : PlainProblem → Claim
claim_of p = claim_by p.conjecture

-- How the run over the unfolded problem by the mode ends, where a tree of at most so many nodes may be asked for; memory may run out.
abbrev pub IsSolved : Option ℕ → Mode → PlainProblem → Answer → Type 0
IsSolved nodes m p Memory = Unit {0}
IsSolved nodes m p (Proved claim n told tree text) = (claim ≡ claim_of p) × (told ≡ None) × IsProofOf nodes m p n tree text
IsSolved nodes m p (GaveUp n) = IsExhausted (setting_for p m) (start (unfolded_problem p)) n
IsSolved nodes m p (CommandLimit n) = IsStopped (setting_for p m) (start (unfolded_problem p)) n
IsSolved nodes m p (ConflictLimit c) = IsSpent (setting_for p m) (start (unfolded_problem p)) c
IsSolved nodes m p answer = ⊥

-- The schedule of the blocks over the unfolded problem is closed after so many commands of all runs, by the run of a block: the mode that
-- is told is that of the block, counted from 1. This run is proved after a number of commands of its own, and the text is that of a
-- refutation of it.
pub record IsProofInTurns (blocks : List Block) (p : PlainProblem) (total : ℕ) (told : Option ℕ) (text : List ℕ) : Type 0 where
  pub number : ℕ
  pub is_told : told ≡ Some (number + 1)
  pub closes : ScheduleEnds (slots_for p blocks) (start (unfolded_problem p)) (closed number total)
  pub block : Block
  pub its_block : slice_get blocks number ≡ Some block
  pub commands : ℕ
  pub proof : IsProofOf None block.mode p commands Unasked text

-- How the schedule of the blocks over the unfolded problem ends; memory may run out.
abbrev pub IsSolvedInTurns : List Block → PlainProblem → Answer → Type 0
IsSolvedInTurns blocks p Memory = Unit {0}
IsSolvedInTurns blocks p (Proved claim n told tree text) = (claim ≡ claim_of p) × (tree ≡ Unasked) × IsProofInTurns blocks p n told text
IsSolvedInTurns blocks p (GaveUp n) = ScheduleEnds (slots_for p blocks) (start (unfolded_problem p)) (empty n)
IsSolvedInTurns blocks p (CommandLimit n) = ScheduleEnds (slots_for p blocks) (start (unfolded_problem p)) (limit n)
IsSolvedInTurns blocks p (ConflictLimit c) = Spends (slots_for p blocks) (start (unfolded_problem p)) c
IsSolvedInTurns blocks p answer = ⊥

-- what a generated problem is answered with: it is done where its run is answered with a proof
abbrev pub IsDemoed : Mode → PlainProblem → Answer → Type 0
IsDemoed m p (DemoDone claim n) = (tree : TreeReport) × (text : List ℕ) × IsSolved None m p (Proved claim n None tree text)
IsDemoed m p (Proved claim n told tree text) = ⊥
IsDemoed m p answer = IsSolved None m p answer
