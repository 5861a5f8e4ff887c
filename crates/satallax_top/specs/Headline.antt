-- What a reported proof means.
use Rattle.std.specs.Prelude.{◌≡◌, ◌+◌, ℕ, List, ◌++◌, filter, slice_get, Option, Some, None}
use Rattle.outside.specs.Prefix.{AppendsProperly}
use Rattle.outside.specs.Seen.{Seen}
use Rattle.stt_core.specs.Meaning.{Model, IsModel}
use Rattle.stt_core.specs.Meets.{MeetsProblem}
use Rattle.stt_core.specs.PlainProblem.{PlainProblem}
use Rattle.stt_core.specs.Declarations.{scope_of}
use Rattle.tableau_calculus.specs.Closed.{Closes, tableau_of}
use Rattle.tableau_calculus.specs.Start.{start}
use Rattle.tableau_calculus.specs.declared.refutation.Refutation.{Refutation}
use Rattle.mode_file.specs.declared.Mode.{Mode}
use Rattle.conv_laws.specs.Sides.{AreSidesOf}
use Rattle.conv_laws.specs.declared.sides.Sides.TheVariants as compared
use Rattle.delta_defs.specs.Unfolding.{taken_names, unfolded_problem}
use Rattle.search_spec.specs.Shallow.{is_shallow_literal}
use Rattle.mode_schedule.specs.declared.Block.{Block}
use Rattle.mode_schedule.specs.Turns.{closed, ScheduleEnds}
use Rattle.mode_schedule.specs.Scheduled.{slots_for}
use Rattle.cli_words.specs.Requests.{Request, prove, by_schedule, asked_by}
use Rattle.cli_words.specs.declared.Cuts.TheVariants.{Allowed, Forbidden}
use Rattle.plain_tableau.specs.declared.stripped.Stripped.{Stripped}
use Rattle.plain_tableau.specs.declared.stripped.Stripped.TheVariants as stripped
use Rattle.prover_run.specs.Tree.{IsTreeAsked}
use Rattle.prover_run.specs.Ended.{setting_for, IsRefuted, HasEnoughConflicts}
use Rattle.refute_print.specs.Text.{text_lines, as_bytes}
use Rattle.refute_print.specs.Named.{named_refutation}
use Rattle.szs_report.specs.Outcomes.{claim_outcome, outcome_of}
use Rattle.szs_report.specs.Report.{report_of}
use Rattle.szs_report.specs.declared.answer.Answer.{Answer}
use Rattle.szs_report.specs.declared.answer.Answer.TheVariants.{Proved}
use Rattle.szs_report.specs.declared.outcome.Outcome.{Outcome}
use Rattle.szs_report.specs.declared.outcome.Outcome.TheVariants.{Theorem, Unsatisfiable, DemoDone, Accepted, Same, Different, NoEquation, WriteFault}
use Rattle.request_answers.specs.Requested.{asked_name, problem_name, mode_file, seen_of}
use Rattle.request_answers.specs.Files.{OfFiles, Statements, StatesProblem}
use Rattle.request_answers.specs.Modes.{IsModeBy}
use Rattle.request_answers.specs.Schedules.{IsScheduleBy}
use Rattle.request_answers.specs.Names.{names_in}
use Rattle.request_answers.specs.Checked.{IsAcceptedText, HoldsOnly}
use Rattle.request_answers.specs.Solved.{claim_of, reported_refutation, tree_told}
use Rattle.request_answers.specs.Answers.{IsAnswer}
use Rattle.request_answers.specs.Causes.{HasCause}

-- a proof of the problem in a file is reported
abbrev pub IsProvedOutcome : Outcome → Type 0
IsProvedOutcome Theorem = Unit {0}
IsProvedOutcome Unsatisfiable = Unit {0}
IsProvedOutcome outcome = ⊥

-- a proof is reported, of the problem in a file or of a generated one, or the text of one is accepted
abbrev pub ShowsNoModel : Outcome → Type 0
ShowsNoModel Theorem = Unit {0}
ShowsNoModel Unsatisfiable = Unit {0}
ShowsNoModel DemoDone = Unit {0}
ShowsNoModel Accepted = Unit {0}
ShowsNoModel outcome = ⊥

-- no standard model whose base types are finite meets the problem's assumed formulas without meeting its conjecture
abbrev pub IsWithoutModel : PlainProblem → Type 0
IsWithoutModel p = (m : Model) → IsModel (scope_of p.declared) m → MeetsProblem p m → ⊥

-- the problem that the files state has no standard model whose base types are finite
pub record HasNoModel (words : List (List ℕ)) (seen : Seen) : Type 0 where
  pub names : List (List ℕ)
  pub problem : PlainProblem
  pub stated : StatesProblem words seen names problem
  pub no_model : IsWithoutModel problem

-- the outcome is of the two sides of a conjecture
abbrev pub IsOfSides : Outcome → Type 0
IsOfSides Same = Unit {0}
IsOfSides Different = Unit {0}
IsOfSides NoEquation = Unit {0}
IsOfSides outcome = ⊥

-- what such an outcome says of a problem's conjecture
abbrev pub SaysOfSides : Outcome → PlainProblem → Type 0
SaysOfSides Same p = AreSidesOf p compared.Same
SaysOfSides Different p = AreSidesOf p compared.Different
SaysOfSides NoEquation p = AreSidesOf p compared.NoEquation
SaysOfSides outcome p = ⊥

-- what the outcome says holds of the problem that the files state
pub record HasSidesSo (words : List (List ℕ)) (seen : Seen) (outcome : Outcome) : Type 0 where
  pub names : List (List ℕ)
  pub problem : PlainProblem
  pub stated : StatesProblem words seen names problem
  pub says : SaysOfSides outcome problem

-- the mode is that of one of the blocks
abbrev pub IsModeOfSome : List Block → Mode → Type 0
IsModeOfSome blocks mode = (number : ℕ) × (block : Block) × (slice_get blocks number ≡ Some block) × (mode ≡ block.mode)

-- the mode is one by which a request is run: that of one of the blocks of its schedule, or that of its file, or the standard one
abbrev pub IsModeAsked : Seen → Request → Mode → Type 0
IsModeAsked seen (by_schedule file p) mode = (blocks : List Block) × IsScheduleBy seen (Some file) blocks × IsModeOfSome blocks mode
IsModeAsked seen r mode = IsModeBy seen (mode_file r) mode

-- Whatever problem the files state that a request is about, and by whatever mode it is run: the mode has enough conflicts for the clauses
-- of each state of the run.
abbrev pub EnoughAsked : Option Request → Seen → Type 0
EnoughAsked None seen = Unit {0}
EnoughAsked (Some r) seen =
    (mode : Mode) (names : List (List ℕ)) (p : PlainProblem)
    → IsModeAsked seen r mode
    → OfFiles (problem_name r) (seen_of seen r) names (Statements p)
    → HasEnoughConflicts (setting_for p mode) (start (unfolded_problem p))

abbrev pub AreConflictsEnough : List (List ℕ) → Seen → Type 0
AreConflictsEnough words seen = EnoughAsked (asked_by words) seen

-- the words ask for the proof of a problem, by this mode, and for a tree without cut of at most so many nodes or for none
pub record IsAskedBy (words : List (List ℕ)) (seen : Seen) (mode : Mode) (nodes : Option ℕ) : Type 0 where
  pub problem : List ℕ
  pub file : Option (List ℕ)
  pub asked : asked_by words ≡ Some (prove problem file nodes)
  pub is_mode : IsModeBy seen file mode

-- The words ask for the proof of a problem by the schedule of a file. Over this problem the schedule is closed after so many commands of
-- all runs, by the run of the block of this number, counted from 0, whose mode this is.
pub record IsAskedInTurns (words : List (List ℕ)) (seen : Seen) (p : PlainProblem) (mode : Mode) (total number : ℕ) : Type 0 where
  pub problem : List ℕ
  pub file : List ℕ
  pub asked : asked_by words ≡ Some (by_schedule file problem)
  pub blocks : List Block
  pub are_blocks : IsScheduleBy seen (Some file) blocks
  pub block : Block
  pub its_block : slice_get blocks number ≡ Some block
  pub its_mode : block.mode ≡ mode
  pub closes : ScheduleEnds (slots_for p blocks) (start (unfolded_problem p)) (closed number total)

-- What is reported beside a proof by this mode after n commands. Where the words ask for one mode, that is the number of these commands.
-- Where they ask for a schedule, it is the number of the commands of all runs, with the number of the mode's block, counted from 1, and no
-- tree is asked for.
abbrev pub IsReportedSo : List (List ℕ) → Seen → PlainProblem → Mode → Option ℕ → ℕ → ℕ → Option ℕ → Type 0
IsReportedSo words seen p mode nodes n reported None = IsAskedBy words seen mode nodes × (reported ≡ n)
IsReportedSo words seen p mode nodes n reported (Some i) =
    (nodes ≡ None) × ((number : ℕ) × (i ≡ number + 1) × IsAskedInTurns words seen p mode reported number)

-- a tree is made whole
abbrev pub IsTreeMade : Option Stripped → Type 0
IsTreeMade None = ⊥
IsTreeMade (Some (stripped.Tree tree nodes)) = Unit {0}
IsTreeMade (Some (stripped.Open branch)) = ⊥
IsTreeMade (Some (stripped.Over nodes)) = ⊥

-- What is written where a proof is reported. The outcome is what the proof shows of the problem that the files state, and the bytes are its
-- report. They hold one refutation, with the names of the definitions that are taken, so that they are an accepted text for the problem. It
-- is accepted for the start of the unfolded problem, and the tableau of its last line closes that start. After a number of commands, and
-- not before, the clauses of the search by the mode are unsatisfiable, and from these clauses a refutation is rebuilt. That number is
-- reported, or under a schedule the number of the commands of all runs, with that of the mode. The refutation is the one that is written,
-- unless a tree without cut is asked for and comes of the instances that it uses: then that of the tree is, and a check that forbids cuts
-- accepts the bytes too. No standard model with finite base types meets the problem.
pub record IsProofReport (words : List (List ℕ)) (seen : Seen) (outcome : Outcome) (written : List ℕ) : Type 0 where
  pub mode : Mode
  pub nodes : Option ℕ
  pub names : List (List ℕ)
  pub problem : PlainProblem
  pub stated : StatesProblem words seen names problem
  pub is_outcome : outcome ≡ claim_outcome (claim_of problem)
  pub commands : ℕ
  pub reported : ℕ
  pub number : Option ℕ
  pub asked : IsReportedSo words seen problem mode nodes commands reported number
  pub rebuilt : Refutation
  pub refuted : IsRefuted (unfolded_problem problem) mode commands rebuilt
  pub stripped : Option Stripped
  pub tree :
      IsTreeAsked (scope_of problem.declared) (start (unfolded_problem problem))
      (filter is_shallow_literal (start (unfolded_problem problem))) refuted.shortly.input nodes stripped
  pub refutation : Refutation
  pub is_written : refutation ≡ reported_refutation rebuilt stripped
  pub is_report :
      written
      ≡ report_of (asked_name words)
      (Proved (claim_of problem) reported number (tree_told stripped)
      (as_bytes (text_lines (named_refutation (names_in problem) (taken_names problem) refutation))))
  pub holds : HoldsOnly problem written refutation
  pub accepted_text : IsAcceptedText Allowed problem written
  pub strict_text : IsTreeMade stripped → IsAcceptedText Forbidden problem written
  pub closed : Closes (scope_of problem.declared) refutation.witnesses (tableau_of refutation) (start (unfolded_problem problem))
  pub no_model : IsWithoutModel problem

-- the bytes appended to old are written as one of the reports for which R holds
pub record Appends (old new : List ℕ) (R : List ℕ → Type 0) : Type 0 where
  pub written : List ℕ
  pub appended : new ≡ old ++ written
  pub is_report : R written

-- an answer of the call with this outcome, and its report
pub record IsReported (words : List (List ℕ)) (seen : Seen) (outcome : Outcome) (written : List ℕ) : Type 0 where
  pub answer : Answer
  pub is_answer : IsAnswer words seen answer
  pub is_outcome : outcome ≡ outcome_of answer
  pub is_report : written ≡ report_of (asked_name words) answer

-- a write failed: a proper prefix of the report of an answer was written, and the answer's cause is there
pub record IsCutShort (words : List (List ℕ)) (seen : Seen) (before now : List ℕ → ℕ) (old new : List ℕ) : Type 0 where
  pub answer : Answer
  pub is_answer : IsAnswer words seen answer
  pub cause : HasCause words seen before now (outcome_of answer)
  pub appended : AppendsProperly old new (report_of (asked_name words) answer)

-- what the call has written
abbrev pub IsWritten : List (List ℕ) → Seen → (List ℕ → ℕ) → (List ℕ → ℕ) → List ℕ → List ℕ → Outcome → Type 0
IsWritten words seen before now old new WriteFault = IsCutShort words seen before now old new
IsWritten words seen before now old new outcome = Appends old new (IsReported words seen outcome)

-- the outcome is that of an answer of the call, unless a write failed
abbrev pub IsOutcome : List (List ℕ) → Seen → Outcome → Type 0
IsOutcome words seen WriteFault = Unit {0}
IsOutcome words seen outcome = (answer : Answer) × IsAnswer words seen answer × (outcome ≡ outcome_of answer)
