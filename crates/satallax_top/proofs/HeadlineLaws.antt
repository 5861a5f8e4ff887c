-- What a call answers and writes has the meaning that it claims.
use Rattle.std.proofs.Common.{◌≡◌, ◌+◌, ℕ, zero, suc, IsTrue, List, [], ◌∷◌, ◌++◌, slice_get, Option, Some, None, Result, Ok, Err, refl, sym, ap, ap₂, subst, ◌∙◌}
use Rattle.std.proofs.lemmas.Option.{same_Some}
use Rattle.outside.specs.Causes.{Rose}
use Rattle.outside.specs.Seen.{Seen}
use Rattle.stt_core.specs.PlainProblem.{PlainProblem}
use Rattle.stt_core.specs.TypedProblem.{IsTyped}
use Rattle.stt_core.specs.Declarations.{scope_of}
use Rattle.tableau_calculus.specs.Start.{start}
use Rattle.tableau_calculus.specs.CutFree.{HasNoCut}
use Rattle.tableau_calculus.specs.declared.refutation.Refutation.{Refutation}
use Rattle.tableau_calculus.proofs.Soundness.{accepted_closes_start}
use Rattle.delta_defs.specs.Unfolding.{taken_names, unfolded_problem}
use Rattle.thf_include.specs.Gathering.{Ending, done, stopped, Stop, wants, too_long, no_tree, cycle, too_many, no_name}
use Rattle.type_check.specs.Statements.{IllInFile, problem_of}
use Rattle.type_check.proofs.TypedProblems.{problem_of-typed}
use Rattle.mode_file.specs.declared.Mode.{Mode}
use Rattle.mode_schedule.specs.declared.Block.{Block}
use Rattle.mode_schedule.specs.Turns.{Slot}
use Rattle.mode_schedule.specs.Scheduled.{slot_for, slots_for}
use Rattle.mode_schedule.proofs.SpendLaws.{spent_runs}
use Rattle.cli_words.specs.Requests.{Request, prove, by_schedule, refutation, generated, models, sides, asked_by}
use Rattle.cli_words.specs.declared.Cuts.{Cuts}
use Rattle.cli_words.specs.declared.Cuts.TheVariants.{Allowed, Forbidden}
use Rattle.plain_tableau.specs.declared.stripped.Stripped.{Stripped}
use Rattle.plain_tableau.specs.declared.stripped.Stripped.TheVariants as stripped
use Rattle.refute_print.specs.Trees.{RefutationTree}
use Rattle.refute_print.specs.Named.{named_refutation}
use Rattle.refute_check.specs.Acceptance.{IsAcceptedFor}
use Rattle.refute_check.proofs.AcceptanceLaws.{accepted_refuted}
use Rattle.szs_report.specs.Outcomes.{outcome_of}
use Rattle.szs_report.specs.Report.{report_of}
use Rattle.szs_report.specs.declared.answer.Answer.{Answer}
use Rattle.szs_report.specs.declared.answer.Answer.TheVariants.{Proved, DemoDone, ConflictLimit, Accepted, Same, Different, NoEquation, SyntaxAt, TypeAt, IncludeAt, Words, TooLong, ReadFault, Memory, UnreadWords}
use Rattle.szs_report.specs.declared.answer.Claim.{Claim}
use Rattle.szs_report.specs.declared.answer.Claim.TheVariants.{Theorem, Unsatisfiable}
use Rattle.szs_report.specs.declared.answer.TreeReport.{TreeReport}
use Rattle.szs_report.specs.declared.answer.TreeReport.TheVariants.{Unasked}
use Rattle.szs_report.specs.declared.answer.NamedFile.{NamedFile}
use Rattle.szs_report.specs.declared.answer.NamedFile.TheVariants.{Part, Check}
use Rattle.szs_report.specs.declared.answer.NamedFile.TheVariants as named
use Rattle.szs_report.specs.declared.outcome.Outcome.{Outcome}
use Rattle.szs_report.specs.declared.outcome.Outcome.TheVariants as ended
use Rattle.request_answers.specs.Requested.{asked_name, problem_name, seen_of, mode_file, schedule_file}
use Rattle.request_answers.specs.Files.{OfFiles, OfAsked, Statements}
use Rattle.request_answers.specs.Modes.{IsModeBy}
use Rattle.request_answers.specs.Schedules.{IsScheduleBy}
use Rattle.request_answers.specs.Names.{names_in}
use Rattle.request_answers.specs.Checked.{Accepts, IsAcceptedText, HoldsOnly}
use Rattle.request_answers.specs.Solved.{reported_refutation, IsProofOf, claim_of}
use Rattle.request_answers.specs.Answers.{stop_answer, AnswersProblem, AnswersStated, AnswersEnding, AnswersFiles, AnswersAsked, IsAnswer, IsDefined}
use Rattle.request_answers.specs.Causes.{HasCauseOf, HasCauseAsked, HasCause}
use Rattle.prover_run.specs.Ended.{setting_for, IsRefuted, IsSpent}
use Rattle.prover_run.proofs.EnoughLaws.{never-ends}
use Rattle.satallax_top.specs.Headline.{EnoughAsked, IsReportedSo, IsTreeMade, IsProvedOutcome, ShowsNoModel, IsWithoutModel, HasNoModel, IsOfSides, SaysOfSides, HasSidesSo, IsProofReport, Appends}
use Rattle.request_answers.proofs.OneLine.{name_one_line}
use Rattle.request_answers.proofs.ReportHolds.{holds_report, accepted_report}
use Rattle.request_answers.proofs.SolvedLaws.{Asked, proof_of_start, proof_accepted}
use Rattle.satallax_top.proofs.ToldFiles.{all_told}

-- no model meets a problem for which a text is accepted
no_model_of : (p : PlainProblem) (t : RefutationTree) → IsTyped p → IsAcceptedFor p t → IsWithoutModel p
no_model_of p t typed accepted m good met = accepted_refuted p typed m good met t accepted

-- an answer that files give in place of a problem
abbrev pub IsRefusal : Answer → Type 0
IsRefusal (ReadFault file) = Unit {0}
IsRefusal (TooLong file) = Unit {0}
IsRefusal (SyntaxAt file at) = Unit {0}
IsRefusal (IncludeAt file at why) = Unit {0}
IsRefusal (TypeAt file at why) = Unit {0}
IsRefusal a = ⊥

stop_refusal : (names : List (List ℕ)) (s : Stop) → IsRefusal (stop_answer names s)
stop_refusal names (wants file) = tt
stop_refusal names (too_long file) = tt
stop_refusal names (no_tree file at) = tt
stop_refusal names (cycle file at) = tt
stop_refusal names (too_many file at) = tt
stop_refusal names (no_name file at) = tt

-- an ending that states a problem, which is answered so
pub record EndsAnswered (Answers : PlainProblem → Answer → Type 0) (a : Answer) (e : Ending) : Type 0 where
  pub problem : PlainProblem
  pub stated : Statements problem e
  pub typed : IsTyped problem
  pub answered : Answers problem a

pub ending_answered : (Answers : PlainProblem → Answer → Type 0) (names : List (List ℕ)) (a : Answer) (e : Ending) → (IsRefusal a → ⊥) → AnswersEnding Answers names a e → EndsAnswered Answers a e
ending_answered Answers names a (stopped s) other h = absurd (other (subst IsRefusal (sym h) (stop_refusal names s)))
ending_answered Answers names a (done ss) other h = go (problem_of ss) refl h
  where
    go : (r : Result PlainProblem IllInFile) → problem_of ss ≡ r → AnswersStated Answers names a r → EndsAnswered Answers a (done ss)
    go (Ok p) e k = record { problem = p; stated = record { statements = ss; gathered = refl; read = e }; typed = problem_of-typed ss p e; answered = k }
    go (Err ill) e k = absurd (other (subst IsRefusal (sym k) tt))

-- so are files
pub record FilesAnswered (r : Request) (seen : Seen) (a : Answer) : Type 0 where
  pub mode : Mode
  pub is_mode : IsModeBy seen (mode_file r) mode
  pub blocks : List Block
  pub are_blocks : IsScheduleBy seen (schedule_file r) blocks
  pub names : List (List ℕ)
  pub problem : PlainProblem
  pub stated : OfFiles (problem_name r) (seen_of seen r) names (Statements problem)
  pub typed : IsTyped problem
  pub answered : AnswersProblem seen r mode blocks problem a

pub files_answered : (r : Request) (seen : Seen) (a : Answer) → (IsRefusal a → ⊥) → AnswersFiles r seen a → FilesAnswered r seen a
files_answered r seen a other h =
    let e = ending_answered (AnswersProblem seen r h.mode h.blocks) h.names a h.files.ending other h.files.holds in
    record {
      mode = h.mode;
      is_mode = h.is_mode;
      blocks = h.blocks;
      are_blocks = h.are_blocks;
      names = h.names;
      problem = e.problem;
      stated = record { texts = h.files.texts; told_texts = h.files.told_texts; ending = h.files.ending; gathers = h.files.gathers; holds = e.stated };
      typed = e.typed;
      answered = e.answered;
    }

-- an answer that is a proof
record IsProofAnswer (a : Answer) : Type 0 where
  pub claim : Claim
  pub commands : ℕ
  pub mode : Option ℕ
  pub tree : TreeReport
  pub text : List ℕ
  pub is : a ≡ Proved claim commands mode tree text

proved_form : (a : Answer) → IsProvedOutcome (outcome_of a) → IsProofAnswer a
proved_form (Proved claim n i tree text) h = record { claim = claim; commands = n; mode = i; tree = tree; text = text; is = refl }
proved_form a h = absurd h

-- what such an answer shows
pub record ProvedAnswer (words : List (List ℕ)) (seen : Seen) (a : Answer) : Type 0 where
  pub request : Request
  pub requested : asked_by words ≡ Some request
  pub names : List (List ℕ)
  pub problem : PlainProblem
  pub stated : OfAsked (asked_by words) seen names (Statements problem)
  pub typed : IsTyped problem
  pub mode : Mode
  pub nodes : Option ℕ
  pub commands : ℕ
  pub reported : ℕ
  pub number : Option ℕ
  pub asked : IsReportedSo words seen problem mode nodes commands reported number
  pub tree : TreeReport
  pub text : List ℕ
  pub proof : IsProofOf nodes mode problem commands tree text
  pub is : a ≡ Proved (claim_of problem) reported number tree text

-- files that are answered with a proof show it
module _ (words : List (List ℕ)) (seen : Seen) (claim : Claim) (n : ℕ) (i : Option ℕ) (tree : TreeReport) (text : List ℕ) where
  proved_files : (p : List ℕ) (file : Option (List ℕ)) (nodes : Option ℕ) → asked_by words ≡ Some (prove p file nodes) → FilesAnswered (prove p file nodes) seen (Proved claim n i tree text) → ProvedAnswer words seen (Proved claim n i tree text)
  proved_files p file nodes asked f = record {
    request = prove p file nodes;
    requested = asked;
    names = f.names;
    problem = f.problem;
    stated = subst (λ x. OfAsked x seen f.names (Statements f.problem)) (sym asked) f.stated;
    typed = f.typed;
    mode = f.mode;
    nodes = nodes;
    commands = n;
    reported = n;
    number = None;
    asked = (record { problem = p; file = file; asked = asked; is_mode = f.is_mode }, refl);
    tree = tree;
    text = text;
    proof = f.answered.2;
    is = ap₂ (λ c j. Proved c n j tree text) f.answered.0 f.answered.1;
  }

  -- so do those of a schedule
  proved_in_turns : (file p : List ℕ) → asked_by words ≡ Some (by_schedule file p) → FilesAnswered (by_schedule file p) seen (Proved claim n i tree text) → ProvedAnswer words seen (Proved claim n i tree text)
  proved_in_turns file p asked f =
      let q = f.answered.2 in
      record {
        request = by_schedule file p;
        requested = asked;
        names = f.names;
        problem = f.problem;
        stated = subst (λ x. OfAsked x seen f.names (Statements f.problem)) (sym asked) f.stated;
        typed = f.typed;
        mode = q.block.mode;
        nodes = None;
        commands = q.commands;
        reported = n;
        number = Some (q.number + 1);
        asked = (refl, (q.number, refl, record { problem = p; file = file; asked = asked; blocks = f.blocks; are_blocks = f.are_blocks; block = q.block; its_block = q.its_block; its_mode = refl; closes = q.closes }));
        tree = Unasked;
        text = text;
        proof = q.proof;
        is = ap₂ (λ c j. Proved c n j tree text) f.answered.0 q.is_told ∙ ap (λ t. Proved (claim_of f.problem) n (Some (q.number + 1)) t text) f.answered.1;
      }

-- Where a proof is answered, a problem is to be proved, and files are answered so. The conclusion is a variable, so that no record is
-- compared field by field.
module _ (R : Type 0) (seen : Seen) (claim : Claim) (n : ℕ) (i : Option ℕ) (tree : TreeReport) (text : List ℕ) where
  abbrev proof_told : Answer
  proof_told = Proved claim n i tree text

  proved_asked : (o : Option Request) → AnswersAsked o seen proof_told → ((p : List ℕ) (file : Option (List ℕ)) (nodes : Option ℕ) → o ≡ Some (prove p file nodes) → AnswersFiles (prove p file nodes) seen proof_told → R)
      → ((file p : List ℕ) → o ≡ Some (by_schedule file p) → AnswersFiles (by_schedule file p) seen proof_told → R) → R
  proved_asked None h k l = cc
  proved_asked (Some (refutation cuts file p)) h k l = let f = files_answered (refutation cuts file p) seen proof_told (λ x. x) h in absurd f.answered.holds
  proved_asked (Some (generated j)) h k l = let f = files_answered (generated j) seen proof_told (λ x. x) h in absurd f.answered
  proved_asked (Some (models j p)) h k l = let f = files_answered (models j p) seen proof_told (λ x. x) h in absurd f.answered
  proved_asked (Some (sides p)) h k l = let f = files_answered (sides p) seen proof_told (λ x. x) h in absurd f.answered
  proved_asked (Some (prove p file nodes)) h k l = k p file nodes refl h
  proved_asked (Some (by_schedule file p)) h k l = l file p refl h

proved_answer : (words : List (List ℕ)) (seen : Seen) (a : Answer) → IsAnswer words seen a → IsProvedOutcome (outcome_of a) → ProvedAnswer words seen a
proved_answer words seen a answer h =
    let q = proved_form a h in
    let proof : Answer = Proved q.claim q.commands q.mode q.tree q.text in
    subst (ProvedAnswer words seen) (sym q.is)
    (proved_asked (ProvedAnswer words seen proof) seen q.claim q.commands q.mode q.tree q.text (asked_by words) (subst (IsAnswer words seen) q.is answer)
    (λ (p : List ℕ) (file : Option (List ℕ)) (nodes : Option ℕ) (asked : asked_by words ≡ Some (prove p file nodes)) (k : AnswersFiles (prove p file nodes) seen proof).
    proved_files words seen q.claim q.commands q.mode q.tree q.text p file nodes asked (files_answered (prove p file nodes) seen proof (λ x. x) k))
    (λ (file p : List ℕ) (asked : asked_by words ≡ Some (by_schedule file p)) (k : AnswersFiles (by_schedule file p) seen proof).
    proved_in_turns words seen q.claim q.commands q.mode q.tree q.text file p asked (files_answered (by_schedule file p) seen proof (λ x. x) k)))

-- what a check accepts that forbids cuts, one accepts that allows them
accepts_any : (cuts : Cuts) (p : PlainProblem) (t : RefutationTree) → Accepts cuts p t → IsAcceptedFor p t
accepts_any Allowed p t h = h
accepts_any Forbidden p t h = h.accepted

-- a problem that is stated has no model
pub record Unmodelled (o : Option Request) (seen : Seen) : Type 0 where
  pub names : List (List ℕ)
  pub problem : PlainProblem
  pub stated : OfAsked o seen names (Statements problem)
  pub no_model : IsWithoutModel problem

no_model_asked : (o : Option Request) (seen : Seen) (a : Answer) → AnswersAsked o seen a → ShowsNoModel (outcome_of a) → Unmodelled o seen
no_model_asked None seen (Proved claim n i tree text) h s = cc
no_model_asked None seen (DemoDone claim n) h s = cc
no_model_asked None seen Accepted h s = cc
no_model_asked (Some (prove p file nodes)) seen (Proved claim n i tree text) h s =
    let f = files_answered (prove p file nodes) seen (Proved claim n i tree text) (λ x. x) h in
    record { names = f.names; problem = f.problem; stated = f.stated; no_model = no_model_of f.problem (named_refutation (names_in f.problem) (taken_names f.problem) f.answered.2.refutation) f.typed (proof_accepted nodes f.mode f.problem n tree text f.answered.2) }
no_model_asked (Some (prove p file nodes)) seen (DemoDone claim n) h s =
    let f = files_answered (prove p file nodes) seen (DemoDone claim n) (λ x. x) h in absurd f.answered
no_model_asked (Some (prove p file nodes)) seen Accepted h s =
    let f = files_answered (prove p file nodes) seen Accepted (λ x. x) h in absurd f.answered
no_model_asked (Some (by_schedule file p)) seen (Proved claim n i tree text) h s =
    let f = files_answered (by_schedule file p) seen (Proved claim n i tree text) (λ x. x) h in
    let q = f.answered.2 in
    record { names = f.names; problem = f.problem; stated = f.stated; no_model = no_model_of f.problem (named_refutation (names_in f.problem) (taken_names f.problem) q.proof.refutation) f.typed (proof_accepted None q.block.mode f.problem q.commands Unasked text q.proof) }
no_model_asked (Some (by_schedule file p)) seen (DemoDone claim n) h s =
    let f = files_answered (by_schedule file p) seen (DemoDone claim n) (λ x. x) h in absurd f.answered
no_model_asked (Some (by_schedule file p)) seen Accepted h s =
    let f = files_answered (by_schedule file p) seen Accepted (λ x. x) h in absurd f.answered
no_model_asked (Some (refutation cuts file p)) seen (Proved claim n i tree text) h s =
    let f = files_answered (refutation cuts file p) seen (Proved claim n i tree text) (λ x. x) h in absurd f.answered.holds
no_model_asked (Some (refutation cuts file p)) seen (DemoDone claim n) h s =
    let f = files_answered (refutation cuts file p) seen (DemoDone claim n) (λ x. x) h in absurd f.answered.holds
no_model_asked (Some (refutation cuts file p)) seen Accepted h s =
    let f = files_answered (refutation cuts file p) seen Accepted (λ x. x) h in
    record { names = f.names; problem = f.problem; stated = f.stated; no_model = no_model_of f.problem f.answered.holds.refutation f.typed (accepts_any cuts f.problem f.answered.holds.refutation f.answered.holds.accepted) }
no_model_asked (Some (generated k)) seen (Proved claim n i tree text) h s =
    let f = files_answered (generated k) seen (Proved claim n i tree text) (λ x. x) h in absurd f.answered
no_model_asked (Some (generated k)) seen (DemoDone claim n) h s =
    let f = files_answered (generated k) seen (DemoDone claim n) (λ x. x) h in
    let proof = f.answered.2.2 in
    record { names = f.names; problem = f.problem; stated = f.stated; no_model = no_model_of f.problem (named_refutation (names_in f.problem) (taken_names f.problem) proof.refutation) f.typed (proof_accepted None f.mode f.problem n f.answered.0 f.answered.1 proof) }
no_model_asked (Some (generated k)) seen Accepted h s =
    let f = files_answered (generated k) seen Accepted (λ x. x) h in absurd f.answered
no_model_asked (Some (models k p)) seen (Proved claim n i tree text) h s =
    let f = files_answered (models k p) seen (Proved claim n i tree text) (λ x. x) h in absurd f.answered
no_model_asked (Some (models k p)) seen (DemoDone claim n) h s =
    let f = files_answered (models k p) seen (DemoDone claim n) (λ x. x) h in absurd f.answered
no_model_asked (Some (models k p)) seen Accepted h s =
    let f = files_answered (models k p) seen Accepted (λ x. x) h in absurd f.answered
no_model_asked (Some (sides p)) seen (Proved claim n i tree text) h s =
    let f = files_answered (sides p) seen (Proved claim n i tree text) (λ x. x) h in absurd f.answered
no_model_asked (Some (sides p)) seen (DemoDone claim n) h s =
    let f = files_answered (sides p) seen (DemoDone claim n) (λ x. x) h in absurd f.answered
no_model_asked (Some (sides p)) seen Accepted h s =
    let f = files_answered (sides p) seen Accepted (λ x. x) h in absurd f.answered
no_model_asked o seen a h s = absurd s

pub no_model_answer : (words : List (List ℕ)) (seen : Seen) (o : Outcome) (a : Answer) → IsAnswer words seen a → o ≡ outcome_of a → ShowsNoModel o → HasNoModel words seen
no_model_answer words seen o a answer is h =
    let q = no_model_asked (asked_by words) seen a answer (subst ShowsNoModel is h) in
    record { names = q.names; problem = q.problem; stated = q.stated; no_model = q.no_model }

-- a problem that is answered with what its conjecture's sides are was to be answered so
said_of_sides : (seen : Seen) (r : Request) (m : Mode) (bs : List Block) (p : PlainProblem) (a : Answer) → IsOfSides (outcome_of a) → AnswersProblem seen r m bs p a → SaysOfSides (outcome_of a) p
said_of_sides seen (prove q file nodes) m bs p Same s h = absurd h
said_of_sides seen (prove q file nodes) m bs p Different s h = absurd h
said_of_sides seen (prove q file nodes) m bs p NoEquation s h = absurd h
said_of_sides seen (by_schedule file q) m bs p Same s h = absurd h
said_of_sides seen (by_schedule file q) m bs p Different s h = absurd h
said_of_sides seen (by_schedule file q) m bs p NoEquation s h = absurd h
said_of_sides seen (refutation cuts file q) m bs p Same s h = absurd h.holds
said_of_sides seen (refutation cuts file q) m bs p Different s h = absurd h.holds
said_of_sides seen (refutation cuts file q) m bs p NoEquation s h = absurd h.holds
said_of_sides seen (generated n) m bs p Same s h = absurd h
said_of_sides seen (generated n) m bs p Different s h = absurd h
said_of_sides seen (generated n) m bs p NoEquation s h = absurd h
said_of_sides seen (models k q) m bs p Same s h = absurd h
said_of_sides seen (models k q) m bs p Different s h = absurd h
said_of_sides seen (models k q) m bs p NoEquation s h = absurd h
said_of_sides seen (sides q) m bs p Same s h = h
said_of_sides seen (sides q) m bs p Different s h = h
said_of_sides seen (sides q) m bs p NoEquation s h = h
said_of_sides seen r m bs p (Proved Theorem n i tree text) s h = absurd s
said_of_sides seen r m bs p (Proved Unsatisfiable n i tree text) s h = absurd s
said_of_sides seen r m bs p a s h = absurd s

of_sides-no_refusal : (a : Answer) → IsOfSides (outcome_of a) → IsRefusal a → ⊥
of_sides-no_refusal (ReadFault file) s x = s
of_sides-no_refusal (TooLong file) s x = s
of_sides-no_refusal (SyntaxAt file at) s x = s
of_sides-no_refusal (IncludeAt file at why) s x = s
of_sides-no_refusal (TypeAt file at why) s x = s
of_sides-no_refusal a s x = x

-- such an answer is given by files. The conclusion is a variable, so that no record is compared field by field.
of_sides_asked : (R : Type 0) (o : Option Request) (seen : Seen) (a : Answer) → IsOfSides (outcome_of a) → AnswersAsked o seen a → ((r : Request) → o ≡ Some r → AnswersFiles r seen a → R) → R
of_sides_asked R None seen Same s h k = cc
of_sides_asked R None seen Different s h k = cc
of_sides_asked R None seen NoEquation s h k = cc
of_sides_asked R (Some r) seen Same s h k = k r refl h
of_sides_asked R (Some r) seen Different s h k = k r refl h
of_sides_asked R (Some r) seen NoEquation s h k = k r refl h
of_sides_asked R o seen (Proved Theorem n i tree text) s h k = absurd s
of_sides_asked R o seen (Proved Unsatisfiable n i tree text) s h k = absurd s
of_sides_asked R o seen a s h k = absurd s

files_sides : (words : List (List ℕ)) (seen : Seen) (a : Answer) (r : Request) → asked_by words ≡ Some r → IsOfSides (outcome_of a) → FilesAnswered r seen a → HasSidesSo words seen (outcome_of a)
files_sides words seen a r asked s f = record {
  names = f.names;
  problem = f.problem;
  stated = subst (λ x. OfAsked x seen f.names (Statements f.problem)) (sym asked) f.stated;
  says = said_of_sides seen r f.mode f.blocks f.problem a s f.answered;
}

pub sides_answer : (words : List (List ℕ)) (seen : Seen) (o : Outcome) (a : Answer) → IsAnswer words seen a → o ≡ outcome_of a → IsOfSides o → HasSidesSo words seen o
sides_answer words seen o a answer is h =
    let s : IsOfSides (outcome_of a) = subst IsOfSides is h in
    subst (HasSidesSo words seen) (sym is)
    (of_sides_asked (HasSidesSo words seen (outcome_of a)) (asked_by words) seen a s answer
    (λ (r : Request) (asked : asked_by words ≡ Some r) (files : AnswersFiles r seen a).
    files_sides words seen a r asked s (files_answered r seen a (of_sides-no_refusal a s) files)))

-- a tree that is made has no cut
made_without_cut : (nodes : Option ℕ) (m : Mode) (p : PlainProblem) (n : ℕ) (rebuilt : Refutation) (r : IsRefuted (unfolded_problem p) m n rebuilt) (s : Option Stripped) → Asked nodes m p n rebuilt r s → IsTreeMade s → HasNoCut (reported_refutation rebuilt s).lines
made_without_cut nodes m p n rebuilt r None a made = absurd made
made_without_cut nodes m p n rebuilt r (Some (stripped.Open branch)) a made = absurd made
made_without_cut nodes m p n rebuilt r (Some (stripped.Over k)) a made = absurd made
made_without_cut None m p n rebuilt r (Some (stripped.Tree tree k)) a made = absurd a
made_without_cut (Some limit) m p n rebuilt r (Some (stripped.Tree tree k)) a made = a.no_cut

-- a check that forbids cuts accepts the report of a tree
strict_report : (nodes : Option ℕ) (m : Mode) (p : PlainProblem) (n : ℕ) (tree : TreeReport) (text bytes : List ℕ) (proof : IsProofOf nodes m p n tree text) → HoldsOnly p bytes proof.refutation → IsTreeMade proof.stripped → IsAcceptedText Forbidden p bytes
strict_report nodes m p n tree text bytes proof h made =
    let no_cut = subst (λ (r : Refutation). HasNoCut r.lines) (sym proof.is_written) (made_without_cut nodes m p n proof.rebuilt proof.refuted proof.stripped proof.asked made) in
    record {
      refutation = named_refutation (names_in p) (taken_names p) proof.refutation;
      first = h.first;
      reads = h.reads;
      accepted = record { accepted = proof_accepted nodes m p n tree text proof; no_cut = subst (λ (r : Refutation). HasNoCut r.lines) (sym proof.numbered) no_cut };
    }

-- the report of an answer that is a proof
proof_reported : (words : List (List ℕ)) (seen : Seen) (o : Outcome) (a : Answer) (written : List ℕ) → IsAnswer words seen a → o ≡ outcome_of a → IsProvedOutcome o → written ≡ report_of (asked_name words) a → IsProofReport words seen o written
proof_reported words seen o a written answer is h w =
    let q = proved_answer words seen a answer (subst IsProvedOutcome is h) in
    let p = q.problem in
    let reported : written ≡ report_of (asked_name words) (Proved (claim_of p) q.reported q.number q.tree q.text) = w ∙ ap (report_of (asked_name words)) q.is in
    let holds = subst (λ x. HoldsOnly p x q.proof.refutation) (sym reported) (holds_report (claim_of p) (asked_name words) q.reported q.number q.nodes q.mode p q.commands q.tree q.text q.proof (name_one_line words q.request q.requested)) in
    record {
      mode = q.mode;
      nodes = q.nodes;
      names = q.names;
      problem = p;
      stated = q.stated;
      is_outcome = is ∙ ap outcome_of q.is;
      commands = q.commands;
      reported = q.reported;
      number = q.number;
      asked = q.asked;
      rebuilt = q.proof.rebuilt;
      refuted = q.proof.refuted;
      stripped = q.proof.stripped;
      tree = q.proof.asked;
      refutation = q.proof.refutation;
      is_written = q.proof.is_written;
      is_report =
          reported
          ∙ ap₂ (λ x t. report_of (asked_name words) (Proved (claim_of p) q.reported q.number x t)) q.proof.is_told q.proof.is_text;
      holds = holds;
      accepted_text = accepted_report q.nodes q.mode p q.commands q.tree q.text written q.proof holds;
      strict_text = strict_report q.nodes q.mode p q.commands q.tree q.text written q.proof holds;
      closed = accepted_closes_start (scope_of p.declared) (start (unfolded_problem p)) q.proof.refutation (proof_of_start q.nodes q.mode p q.commands q.tree q.text q.proof);
      no_model = no_model_of p (named_refutation (names_in p) (taken_names p) q.proof.refutation) q.typed (proof_accepted q.nodes q.mode p q.commands q.tree q.text q.proof);
    }

-- the bytes that are appended for an answer that is a proof
pub proof_appended : (words : List (List ℕ)) (seen : Seen) (o : Outcome) (a : Answer) (old new : List ℕ) → IsAnswer words seen a → o ≡ outcome_of a → new ≡ old ++ report_of (asked_name words) a → IsProvedOutcome o → Appends old new (IsProofReport words seen o)
proof_appended words seen o a old new answer is w h =
    record { written = report_of (asked_name words) a; appended = w; is_report = proof_reported words seen o a (report_of (asked_name words) a) answer is h refl }

-- an answer whose outcome is that the words ask for nothing
words_form : (a : Answer) → outcome_of a ≡ ended.Words → a ≡ Words
words_form Words e = refl
words_form (Proved Theorem n i tree text) e = cc
words_form (Proved Unsatisfiable n i tree text) e = cc
words_form a e = cc

words_asked : (o : Option Request) (seen : Seen) → AnswersAsked o seen Words → o ≡ None
words_asked None seen h = refl
words_asked (Some (prove p file nodes)) seen h = let f = files_answered (prove p file nodes) seen Words (λ x. x) h in absurd f.answered
words_asked (Some (by_schedule file p)) seen h = let f = files_answered (by_schedule file p) seen Words (λ x. x) h in absurd f.answered
words_asked (Some (refutation cuts file p)) seen h = let f = files_answered (refutation cuts file p) seen Words (λ x. x) h in absurd f.answered.holds
words_asked (Some (generated n)) seen h = let f = files_answered (generated n) seen Words (λ x. x) h in absurd f.answered
words_asked (Some (models k p)) seen h = let f = files_answered (models k p) seen Words (λ x. x) h in absurd f.answered
words_asked (Some (sides p)) seen h = let f = files_answered (sides p) seen Words (λ x. x) h in absurd f.answered

pub words_answer : (words : List (List ℕ)) (seen : Seen) (o : Outcome) (a : Answer) → IsAnswer words seen a → o ≡ outcome_of a → o ≡ ended.Words → asked_by words ≡ None
words_answer words seen o a answer is e = words_asked (asked_by words) seen (subst (IsAnswer words seen) (words_form a (sym is ∙ e)) answer)

-- the mode of a slot is that of its block
record ModeOfSlot (p : PlainProblem) (blocks : List Block) (k : ℕ) (slot : Slot) : Type 0 where
  block : Block
  its_block : slice_get blocks k ≡ Some block
  its_setting : slot.setting ≡ setting_for p block.mode

mode-of-slot : (p : PlainProblem) (blocks : List Block) (k : ℕ) (slot : Slot) → slice_get (slots_for p blocks) k ≡ Some slot → ModeOfSlot p blocks k slot
mode-of-slot p [] k slot e = absurd (cc)
mode-of-slot p (b ∷ bs) zero slot e =
    let same = same_Some (slot_for p b) slot e in
    record { block = b; its_block = refl; its_setting = ap (λ (s : Slot). s.setting) (sym same) }
mode-of-slot p (b ∷ bs) (suc k) slot e = let later = mode-of-slot p bs k slot e in record { block = later.block; its_block = later.its_block; its_setting = later.its_setting }

-- conflicts that are enough aren't answered to be spent
pub never_spent : (o : Option Request) (seen : Seen) (conflicts : ℕ) → EnoughAsked o seen → AnswersAsked o seen (ConflictLimit conflicts) → ⊥
never_spent None seen conflicts enough h = cc
never_spent (Some (prove p file nodes)) seen conflicts enough h =
    let f = files_answered (prove p file nodes) seen (ConflictLimit conflicts) (λ x. x) h in
    never-ends (setting_for f.problem f.mode) (start (unfolded_problem f.problem)) conflicts (enough f.mode f.names f.problem f.is_mode f.stated) f.answered
never_spent (Some (by_schedule file p)) seen conflicts enough h =
    let f = files_answered (by_schedule file p) seen (ConflictLimit conflicts) (λ x. x) h in
    let q = spent_runs (slots_for f.problem f.blocks) (start (unfolded_problem f.problem)) conflicts f.answered in
    let b = mode-of-slot f.problem f.blocks q.number q.slot q.its_slot in
    never-ends (setting_for f.problem b.block.mode) (start (unfolded_problem f.problem)) conflicts
    (enough b.block.mode f.names f.problem (f.blocks, f.are_blocks, (q.number, b.block, b.its_block, refl)) f.stated)
    (subst (λ x. IsSpent x (start (unfolded_problem f.problem)) conflicts) b.its_setting q.spent)
never_spent (Some (refutation cuts file p)) seen conflicts enough h =
    let f = files_answered (refutation cuts file p) seen (ConflictLimit conflicts) (λ x. x) h in f.answered.holds
never_spent (Some (generated n)) seen conflicts enough h =
    let f = files_answered (generated n) seen (ConflictLimit conflicts) (λ x. x) h in
    never-ends (setting_for f.problem f.mode) (start (unfolded_problem f.problem)) conflicts (enough f.mode f.names f.problem f.is_mode f.stated) f.answered
never_spent (Some (models k p)) seen conflicts enough h =
    let f = files_answered (models k p) seen (ConflictLimit conflicts) (λ x. x) h in f.answered
never_spent (Some (sides p)) seen conflicts enough h =
    let f = files_answered (sides p) seen (ConflictLimit conflicts) (λ x. x) h in f.answered

-- that memory ran out needs no cause
pub memory_without_cause : (o : Option Request) (seen : Seen) (before : List ℕ → ℕ) → HasCauseAsked o seen before before ended.Memory
memory_without_cause None seen before = λ file. refl
memory_without_cause (Some r) seen before = λ file. refl

-- a fault has its count
rose_of : (r : Request) (seen : Seen) (before now : List ℕ → ℕ) (f : NamedFile) → HasCauseOf r seen before now (outcome_of (ReadFault f)) → (file : List ℕ) × Rose (before file) (now file)
rose_of (prove p m nodes) seen before now (Part k names) h = (h.file, h.rose)
rose_of (by_schedule t p) seen before now (Part k names) h = (h.file, h.rose)
rose_of (refutation cuts t p) seen before now (Part k names) h = (h.file, h.rose)
rose_of (generated n) seen before now (Part k names) h = absurd h
rose_of (models k p) seen before now (Part i names) h = (h.file, h.rose)
rose_of (sides p) seen before now (Part k names) h = (h.file, h.rose)
rose_of r seen before now (named.Mode name) h = (h.file, h.rose)
rose_of r seen before now (named.Schedule name) h = (h.file, h.rose)
rose_of r seen before now (Check name) h = (h.file, h.rose)

rose_asked : (o : Option Request) (seen : Seen) (before now : List ℕ → ℕ) (f : NamedFile) → AnswersAsked o seen (ReadFault f) → HasCauseAsked o seen before now (outcome_of (ReadFault f)) → (file : List ℕ) × Rose (before file) (now file)
rose_asked None seen before now f a h = cc
rose_asked (Some r) seen before now f a h = rose_of r seen before now f h

-- where contents are told and no count of faults rises, an answer is the defined one
pub defined_answer : (words : List (List ℕ)) (seen : Seen) (before now : List ℕ → ℕ) (o : Outcome) (a : Answer) → IsAnswer words seen a → o ≡ outcome_of a → IsTrue seen.tells
    → HasCause words seen before now (outcome_of a) → ((file : List ℕ) → Rose (before file) (now file) → ⊥) → IsDefined words seen.contents o
defined_answer words seen before now o a answer is t cause quiet = subst (IsDefined words seen.contents) (sym is) (go a (subst (λ b. IsAnswer words (record { tells = b; contents = seen.contents }) a) t answer) (subst (λ b. HasCause words (record { tells = b; contents = seen.contents }) before now (outcome_of a)) t cause))
  where
    go : (a : Answer) → IsAnswer words (all_told seen.contents) a → HasCause words (all_told seen.contents) before now (outcome_of a) → IsDefined words seen.contents (outcome_of a)
    go Memory answer cause = tt
    go UnreadWords answer cause = tt
    go (ConflictLimit c) answer cause = tt
    go (ReadFault f) answer cause = let r = rose_asked (asked_by words) (all_told seen.contents) before now f answer cause in absurd (quiet r.0 r.1)
    go (Proved Theorem n i tree text) answer cause = (Proved Theorem n i tree text, (tt, answer), refl)
    go (Proved Unsatisfiable n i tree text) answer cause = (Proved Unsatisfiable n i tree text, (tt, answer), refl)
    go a answer cause = (a, (tt, answer), refl)
