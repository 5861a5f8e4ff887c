-- Where the files tell their contents there is one defined answer, but for the refutation of a proof.
use Rattle.std.proofs.Common.{◌≡◌, ◌≢◌, ℕ, ◌<◌, ◌≤◌, ◌⊎◌, inl, inr, true, List, length, Option, Some, None, Result, Ok, Err, refl, sym, ap, ap₂, subst, ◌∙◌, arith}
use Rattle.stt_core.specs.PlainProblem.{PlainProblem}
use Rattle.tableau_calculus.specs.declared.refutation.Why.{Why}
use Rattle.thf_include.specs.Gathering.{Ending, done, stopped, wants, too_long, no_tree, cycle, too_many, no_name}
use Rattle.type_check.specs.Statements.{IllInFile, problem_of}
use Rattle.mode_file.specs.declared.Mode.{Mode as SearchMode}
use Rattle.outside.specs.Lines.{lines_of}
use Rattle.mode_file.specs.Grammar.{States}
use Rattle.mode_file.specs.Refusals.{Refuses}
use Rattle.mode_file.proofs.AnswerLaws.{one_mode, one_refusal as one_bad_line, not_both_answers}
use Rattle.mode_schedule.specs.declared.Block.{Block}
use Rattle.mode_schedule.specs.declared.refused.ScheduleRefused.TheVariants as unread
use Rattle.mode_schedule.specs.Grammar.{StatesBlocks}
use Rattle.mode_schedule.specs.Refusals.{RefusesBlocks}
use Rattle.mode_schedule.proofs.OneSchedule.{one_schedule, one_schedule_refusal, schedule_or_refusal}
use Rattle.cli_words.specs.Requests.{Request, prove, by_schedule, refutation, generated, models, sides, asked_by}
use Rattle.szs_report.specs.Outcomes.{outcome_of, without_refutation}
use Rattle.szs_report.specs.declared.answer.Answer.{Answer}
use Rattle.szs_report.specs.declared.answer.Answer.TheVariants.{Proved, ConflictLimit, Accepted, Refused, CounterSatisfiable, Satisfiable, NoneSmall, ModelsTooMany, Same, Different, NoEquation, ModeAt, ScheduleAt, Words, TooLong, ReadFault, Memory, UnreadWords}
use Rattle.szs_report.specs.declared.answer.NamedFile.TheVariants.{Mode, Schedule, Check}
use Rattle.szs_report.specs.declared.outcome.ModeWhy.{ModeWhy}
use Rattle.szs_report.specs.declared.outcome.ModeWhy.TheVariants.{UnknownKey, Twice, BadNumber, OutOfRange}
use Rattle.szs_report.specs.declared.outcome.ScheduleWhy.{ScheduleWhy}
use Rattle.szs_report.specs.declared.outcome.ScheduleWhy.TheVariants as why
use Rattle.request_answers.specs.Requested.{problem_name, mode_file, schedule_file, seen_of}
use Rattle.request_answers.specs.NamedFiles.{OfFile, IsLongFile}
use Rattle.request_answers.specs.Modes.{IsModeBy, refused_at, IsBadMode}
use Rattle.request_answers.specs.Schedules.{IsScheduleBy, refused_schedule_at, IsBadSchedule}
use Rattle.outside.specs.Limits.{byte_limit}
use Rattle.request_answers.specs.Internal.RefusedModes.{mode_answer}
use Rattle.request_answers.specs.Internal.RefusedSchedules.{schedule_answer}
use Rattle.cli_words.specs.declared.Cuts.{Cuts}
use Rattle.request_answers.specs.Checked.{IsAcceptedText, IsRefusedText, AnswersBytes, AnswersText}
use Rattle.request_answers.specs.Answers.{AnswersProblem, AnswersStated, AnswersEnding, AnswersFiles, AnswersAsked, IsSettled, Defined}
use Rattle.conv_laws.specs.Sides.{AreSidesOf}
use Rattle.conv_laws.specs.declared.sides.Sides.{Sides}
use Rattle.conv_laws.specs.declared.sides.Sides.TheVariants as compared
use Rattle.conv_laws.proofs.SideLaws.{one_said}
use Rattle.finite_models.specs.Symbols.{model_symbols}
use Rattle.finite_models.specs.Small.{IsSmallFinding}
use Rattle.finite_models.specs.declared.found.Found.{Found}
use Rattle.finite_models.specs.declared.found.Found.TheVariants as found
use Rattle.finite_models.proofs.OneAnswer.{one_answer as one_finding}
use Rattle.szs_report.specs.ModelText.{model_text}
use Rattle.request_answers.specs.Names.{names_in}
use Rattle.request_answers.specs.Compared.{AnswersSides}
use Rattle.request_answers.specs.Modelled.{AnswersModels}
use Rattle.satallax_top.specs.Models.{model_answer_by}
use Rattle.request_answers.proofs.CheckedLaws.{accepted_not_refused, one_refusal}
use Rattle.request_answers.proofs.RunEnds.{solved-same, turns-same, demoed-same}
use Rattle.satallax_top.proofs.ToldFiles.{all_told, IsFinal, one_told}

-- what the bytes of a text are answered with
data BytesAnswer (cuts : Cuts) (p : PlainProblem) (bytes : List ℕ) (a : Answer) : Type 0 where
  accepts : a ≡ Accepted → IsAcceptedText cuts p bytes → BytesAnswer cuts p bytes a
  refuses : (line : ℕ) (why : Why) → a ≡ Refused line why → IsRefusedText cuts p bytes line why → BytesAnswer cuts p bytes a

bytes_answer : (cuts : Cuts) (p : PlainProblem) (bytes : List ℕ) (a : Answer) → IsSettled a → AnswersBytes cuts p bytes a → BytesAnswer cuts p bytes a
bytes_answer cuts p bytes Memory w h = absurd w
bytes_answer cuts p bytes Accepted w h = accepts refl h
bytes_answer cuts p bytes (Refused line why) w h = refuses line why refl h
bytes_answer cuts p bytes a w h = absurd h

bytes_same : (cuts : Cuts) (p : PlainProblem) (bytes : List ℕ) (a b : Answer) → BytesAnswer cuts p bytes a → BytesAnswer cuts p bytes b → a ≡ b
bytes_same cuts p bytes a b (accepts e h) (accepts f k) = e ∙ sym f
bytes_same cuts p bytes a b (accepts e h) (refuses line why f k) = absurd (accepted_not_refused cuts p bytes line why h k)
bytes_same cuts p bytes a b (refuses line why e h) (accepts f k) = absurd (accepted_not_refused cuts p bytes line why k h)
bytes_same cuts p bytes a b (refuses line why e h) (refuses other cause f k) =
    let q = one_refusal cuts p bytes line other why cause h k in
    e ∙ ap₂ (λ l w. Refused l w) q.0 q.1 ∙ sym f

-- what a told text is answered with
record IsTextRead (cuts : Cuts) (contents : List ℕ → Option (List ℕ)) (file : List ℕ) (p : PlainProblem) (a : Answer) : Type 0 where
  pub bytes : List ℕ
  pub told : contents file ≡ Some bytes
  pub answer : ((a ≡ TooLong (Check file)) × (byte_limit < length bytes)) ⊎ ((length bytes ≤ byte_limit) × BytesAnswer cuts p bytes a)

text_read : (cuts : Cuts) (contents : List ℕ → Option (List ℕ)) (file : List ℕ) (p : PlainProblem) (a : Answer) → IsSettled a → AnswersText cuts (all_told contents) file p a → IsTextRead cuts contents file p a
text_read cuts contents file p Memory w h = absurd w
text_read cuts contents file p (ReadFault named) w h = absurd w
text_read cuts contents file p (TooLong (Check own)) w h =
    let q = h.1 refl in
    record { bytes = q.0; told = q.1; answer = inl (ap (λ n. TooLong (Check n)) h.0, q.2) }
text_read cuts contents file p a w h = record { bytes = h.bytes; told = h.told_bytes refl; answer = inr (h.short, bytes_answer cuts p h.bytes a w h.holds) }

text_same : (cuts : Cuts) (contents : List ℕ → Option (List ℕ)) (file : List ℕ) (p : PlainProblem) (a b : Answer) → IsTextRead cuts contents file p a → IsTextRead cuts contents file p b → a ≡ b
text_same cuts contents file p a b h k =
    let both : Some h.bytes ≡ Some k.bytes = sym h.told ∙ k.told in
    let one : h.bytes ≡ k.bytes = cc in
    go one h.answer k.answer
  where
    go : h.bytes ≡ k.bytes → ((a ≡ TooLong (Check file)) × (byte_limit < length h.bytes)) ⊎ ((length h.bytes ≤ byte_limit) × BytesAnswer cuts p h.bytes a)
        → ((b ≡ TooLong (Check file)) × (byte_limit < length k.bytes)) ⊎ ((length k.bytes ≤ byte_limit) × BytesAnswer cuts p k.bytes b) → a ≡ b
    go one (inl x) (inl y) = x.0 ∙ sym y.0
    go one (inl x) (inr y) = absurd (omega (arith, x.1, y.0, ap length one))
    go one (inr x) (inl y) = absurd (omega (arith, x.0, y.1, ap length one))
    go one (inr x) (inr y) = bytes_same cuts p k.bytes a b (subst (λ bs. BytesAnswer cuts p bs a) one x.1) y.1

-- what the two sides of a conjecture are answered with
abbrev compared_answer : Sides → Answer
compared_answer compared.Same = Same
compared_answer compared.Different = Different
compared_answer compared.NoEquation = NoEquation

record IsComparison (p : PlainProblem) (a : Answer) : Type 0 where
  said : Sides
  holds : AreSidesOf p said
  is : a ≡ compared_answer said

comparison_of : (p : PlainProblem) (a : Answer) → IsSettled a → AnswersSides p a → IsComparison p a
comparison_of p Memory w h = absurd w
comparison_of p Same w h = record { said = compared.Same; holds = h; is = refl }
comparison_of p Different w h = record { said = compared.Different; holds = h; is = refl }
comparison_of p NoEquation w h = record { said = compared.NoEquation; holds = h; is = refl }
comparison_of p a w h = absurd h

compared_same : (p : PlainProblem) (a b : Answer) → IsComparison p a → IsComparison p b → a ≡ b
compared_same p a b h k = h.is ∙ ap compared_answer (one_said p h.said k.said h.holds k.holds) ∙ sym k.is

-- what a search for models is answered with
abbrev finding_answer : ℕ → PlainProblem → Found → Answer
finding_answer upto p (found.Model s values) = model_answer_by p.conjecture s (model_text (names_in p) (model_symbols p) values)
finding_answer upto p (found.TooMany s) = ModelsTooMany s
finding_answer upto p found.None = NoneSmall upto

record IsFinding (upto : ℕ) (p : PlainProblem) (a : Answer) : Type 0 where
  what : Found
  small : IsSmallFinding p upto what
  is : a ≡ finding_answer upto p what

finding_of : (upto : ℕ) (p : PlainProblem) (a : Answer) → IsSettled a → AnswersModels upto p a → IsFinding upto p a
finding_of upto p Memory w h = absurd w
finding_of upto p (CounterSatisfiable n lines) w h =
    let f = h.1 in
    record { what = found.Model n f.values; small = f.found.small; is = ap (CounterSatisfiable n) f.lines_are ∙ ap (λ o. model_answer_by o n (model_text (names_in p) (model_symbols p) f.values)) (sym h.0.1) }
finding_of upto p (Satisfiable n lines) w h =
    let f = h.1 in
    record { what = found.Model n f.values; small = f.found.small; is = ap (Satisfiable n) f.lines_are ∙ ap (λ o. model_answer_by o n (model_text (names_in p) (model_symbols p) f.values)) (sym h.0) }
finding_of upto p (NoneSmall n) w h = record { what = found.None; small = h.1.small; is = ap NoneSmall h.0 }
finding_of upto p (ModelsTooMany n) w h = record { what = found.TooMany n; small = h.small; is = refl }
finding_of upto p a w h = absurd h

finding_same : (upto : ℕ) (p : PlainProblem) (a b : Answer) → IsFinding upto p a → IsFinding upto p b → a ≡ b
finding_same upto p a b h k = h.is ∙ ap (finding_answer upto p) (one_finding p upto h.what k.what h.small k.small) ∙ sym k.is

-- a problem that is read is answered in one way
problem_same : (r : Request) (m : SearchMode) (bs : List Block) (contents : List ℕ → Option (List ℕ)) (p : PlainProblem) (a b : Answer) → IsSettled a → IsSettled b
    → AnswersProblem (all_told contents) r m bs p a → AnswersProblem (all_told contents) r m bs p b → without_refutation a ≡ without_refutation b
problem_same (prove p file nodes) m bs contents q a b w v h k = solved-same nodes m q a b w v h k
problem_same (by_schedule file p) m bs contents q a b w v h k = turns-same bs q a b w v h k
problem_same (refutation cuts file p) m bs contents q a b w v h k = ap without_refutation (text_same cuts contents file q a b (text_read cuts contents file q a w h) (text_read cuts contents file q b v k))
problem_same (generated n) m bs contents q a b w v h k = demoed-same m q a b w v h k
problem_same (models upto p) m bs contents q a b w v h k = ap without_refutation (finding_same upto q a b (finding_of upto q a w h) (finding_of upto q b v k))
problem_same (sides p) m bs contents q a b w v h k = ap without_refutation (compared_same q a b (comparison_of q a w h) (comparison_of q b v k))

stated_same : (r : Request) (m : SearchMode) (bs : List Block) (contents : List ℕ → Option (List ℕ)) (names : List (List ℕ)) (a b : Answer) (o : Result PlainProblem IllInFile) → IsSettled a → IsSettled b
    → AnswersStated (AnswersProblem (all_told contents) r m bs) names a o → AnswersStated (AnswersProblem (all_told contents) r m bs) names b o → without_refutation a ≡ without_refutation b
stated_same r m bs contents names a b (Ok p) w v h k = problem_same r m bs contents p a b w v h k
stated_same r m bs contents names a b (Err ill) w v h k = ap without_refutation (h ∙ sym k)

-- by how the gathering ends
ending_same : (r : Request) (m : SearchMode) (bs : List Block) (contents : List ℕ → Option (List ℕ)) (names : List (List ℕ)) (a b : Answer) (e : Ending) → IsSettled a → IsSettled b
    → AnswersEnding (AnswersProblem (all_told contents) r m bs) names a e → AnswersEnding (AnswersProblem (all_told contents) r m bs) names b e → without_refutation a ≡ without_refutation b
ending_same r m bs contents names a b (done ss) w v h k = stated_same r m bs contents names a b (problem_of ss) w v h k
ending_same r m bs contents names a b (stopped s) w v h k = ap without_refutation (h ∙ sym k)

-- no file is wanted where the answer is settled
final_of : (Answers : PlainProblem → Answer → Type 0) (names : List (List ℕ)) (a : Answer) (e : Ending) → IsSettled a → AnswersEnding Answers names a e → IsFinal e
final_of Answers names a (done ss) w h = tt
final_of Answers names a (stopped (wants file)) w h = absurd (subst IsSettled h w)
final_of Answers names a (stopped (too_long file)) w h = tt
final_of Answers names a (stopped (no_tree file at)) w h = tt
final_of Answers names a (stopped (cycle file at)) w h = tt
final_of Answers names a (stopped (too_many file at)) w h = tt
final_of Answers names a (stopped (no_name file at)) w h = tt

-- one file's bytes
bytes_of : (contents : List ℕ → Option (List ℕ)) (file : List ℕ) (P Q : List ℕ → Type 0) (h : OfFile (all_told contents) file P) (k : OfFile (all_told contents) file Q) → h.bytes ≡ k.bytes
bytes_of contents file P Q h k = let both : Some h.bytes ≡ Some k.bytes = sym (h.told_bytes refl) ∙ k.told_bytes refl in cc

-- no file is both read whole and too long
not_long : (contents : List ℕ → Option (List ℕ)) (file : List ℕ) (P : List ℕ → Type 0) → OfFile (all_told contents) file P → IsLongFile (all_told contents) file → ⊥
not_long contents file P h l =
    let q = l refl in
    let both : Some h.bytes ≡ Some q.0 = sym (h.told_bytes refl) ∙ q.1 in
    let one : h.bytes ≡ q.0 = cc in
    omega (arith, h.short, q.2, ap length one)

-- the mode is one
mode_same : (contents : List ℕ → Option (List ℕ)) (file : Option (List ℕ)) (m n : SearchMode) → IsModeBy (all_told contents) file m → IsModeBy (all_told contents) file n → m ≡ n
mode_same contents None m n h k = h ∙ sym k
mode_same contents (Some file) m n h k =
    one_mode (lines_of k.bytes) m n (subst (λ bs. States (lines_of bs) m) (bytes_of contents file _ _ h k) h.holds) k.holds

-- a mode's file is read, or has one bad line
no_bad_mode : (contents : List ℕ → Option (List ℕ)) (file : Option (List ℕ)) (m : SearchMode) (line : ℕ) (why : ModeWhy) → IsModeBy (all_told contents) file m → IsBadMode (all_told contents) file line why → ⊥
no_bad_mode contents None m line why h k = k
no_bad_mode contents (Some file) m line why h k =
    not_both_answers (lines_of k.bytes) m (refused_at why line) (subst (λ bs. States (lines_of bs) m) (bytes_of contents file _ _ h k) h.holds) k.holds

mode_answered : (why : ModeWhy) (line : ℕ) → mode_answer (refused_at why line) ≡ ModeAt line why
mode_answered UnknownKey line = refl
mode_answered Twice line = refl
mode_answered BadNumber line = refl
mode_answered OutOfRange line = refl

one_bad_mode : (contents : List ℕ → Option (List ℕ)) (file : Option (List ℕ)) (line other : ℕ) (why cause : ModeWhy) → IsBadMode (all_told contents) file line why → IsBadMode (all_told contents) file other cause → ModeAt line why ≡ ModeAt other cause
one_bad_mode contents None line other why cause h k = absurd h
one_bad_mode contents (Some file) line other why cause h k =
    let same = one_bad_line (lines_of k.bytes) (refused_at why line) (refused_at cause other) (subst (λ bs. Refuses (lines_of bs) (refused_at why line)) (bytes_of contents file _ _ h k) h.holds) k.holds in
    sym (mode_answered why line) ∙ ap mode_answer same ∙ mode_answered cause other

-- the blocks are one list
schedule_same : (contents : List ℕ → Option (List ℕ)) (file : Option (List ℕ)) (bs cs : List Block) → IsScheduleBy (all_told contents) file bs → IsScheduleBy (all_told contents) file cs → bs ≡ cs
schedule_same contents None bs cs h k = h ∙ sym k
schedule_same contents (Some file) bs cs h k =
    one_schedule (lines_of k.bytes) bs cs (subst (λ x. StatesBlocks (lines_of x) bs) (bytes_of contents file _ _ h k) h.holds) k.holds

-- a schedule's file is read, or has one bad line
no_memory : (why : ScheduleWhy) (line : ℕ) → refused_schedule_at why line ≢ unread.Memory
no_memory why.UnknownKey line e = cc
no_memory why.Twice line e = cc
no_memory why.BadNumber line e = cc
no_memory why.OutOfRange line e = cc
no_memory why.NoSlice line e = cc
no_memory why.TooManyBlocks line e = cc

no_bad_schedule : (contents : List ℕ → Option (List ℕ)) (file : Option (List ℕ)) (bs : List Block) (line : ℕ) (cause : ScheduleWhy) → IsScheduleBy (all_told contents) file bs → IsBadSchedule (all_told contents) file line cause → ⊥
no_bad_schedule contents None bs line cause h k = k
no_bad_schedule contents (Some file) bs line cause h k =
    schedule_or_refusal (lines_of k.bytes) bs (refused_schedule_at cause line) (no_memory cause line) (subst (λ x. StatesBlocks (lines_of x) bs) (bytes_of contents file _ _ h k) h.holds) k.holds

schedule_answered : (cause : ScheduleWhy) (line : ℕ) → schedule_answer (refused_schedule_at cause line) ≡ ScheduleAt line cause
schedule_answered why.UnknownKey line = refl
schedule_answered why.Twice line = refl
schedule_answered why.BadNumber line = refl
schedule_answered why.OutOfRange line = refl
schedule_answered why.NoSlice line = refl
schedule_answered why.TooManyBlocks line = refl

one_bad_schedule : (contents : List ℕ → Option (List ℕ)) (file : Option (List ℕ)) (line other : ℕ) (cause more : ScheduleWhy) → IsBadSchedule (all_told contents) file line cause → IsBadSchedule (all_told contents) file other more → ScheduleAt line cause ≡ ScheduleAt other more
one_bad_schedule contents None line other cause more h k = absurd h
one_bad_schedule contents (Some file) line other cause more h k =
    let same =
    one_schedule_refusal (lines_of k.bytes) (refused_schedule_at cause line) (refused_schedule_at more other) (no_memory cause line) (no_memory more other)
    (subst (λ x. RefusesBlocks (lines_of x) (refused_schedule_at cause line)) (bytes_of contents file _ _ h k) h.holds) k.holds in
    sym (schedule_answered cause line) ∙ ap schedule_answer same ∙ schedule_answered more other

-- what is told of a request is told
told_true : (contents : List ℕ → Option (List ℕ)) (r : Request) → (seen_of (all_told contents) r).tells ≡ true
told_true contents (prove p file nodes) = refl
told_true contents (by_schedule file p) = refl
told_true contents (refutation cuts file p) = refl
told_true contents (generated n) = refl
told_true contents (models upto p) = refl
told_true contents (sides p) = refl

files_same : (r : Request) (contents : List ℕ → Option (List ℕ)) (a b : Answer) → IsSettled a → IsSettled b
    → AnswersFiles r (all_told contents) a → AnswersFiles r (all_told contents) b → without_refutation a ≡ without_refutation b
files_same r contents a b w v h k =
    let m = mode_same contents (mode_file r) h.mode k.mode h.is_mode k.is_mode in
    let bs = schedule_same contents (schedule_file r) h.blocks k.blocks h.are_blocks k.are_blocks in
    let f = h.files in
    let g = k.files in
    let same =
    one_told (seen_of (all_told contents) r).contents (problem_name r) h.names f.texts k.names g.texts f.ending g.ending
    (f.told_texts (told_true contents r)) f.gathers (final_of (AnswersProblem (all_told contents) r h.mode h.blocks) h.names a f.ending w f.holds)
    (g.told_texts (told_true contents r)) g.gathers (final_of (AnswersProblem (all_told contents) r k.mode k.blocks) k.names b g.ending v g.holds) in
    let Here : List (List ℕ) → Ending → Type 0 = λ ns e. AnswersEnding (AnswersProblem (all_told contents) r k.mode k.blocks) ns a e in
    let moved : Here h.names f.ending = subst (λ x. AnswersEnding (AnswersProblem (all_told contents) r k.mode x) h.names a f.ending) bs (subst (λ n. AnswersEnding (AnswersProblem (all_told contents) r n h.blocks) h.names a f.ending) m f.holds) in
    ending_same r k.mode k.blocks contents k.names a b g.ending w v (subst (λ ns. Here ns g.ending) same.names_same (subst (Here h.names) same.endings_same moved)) g.holds

-- an answer of a mode's file
data IsOfModeFile (contents : List ℕ → Option (List ℕ)) (o : Option (List ℕ)) (a : Answer) : Type 0 where
  bad_mode : (line : ℕ) (why : ModeWhy) → a ≡ ModeAt line why → IsBadMode (all_told contents) o line why → IsOfModeFile contents o a
  long_mode : (file : List ℕ) → a ≡ TooLong (Mode file) → o ≡ Some file → IsLongFile (all_told contents) file → IsOfModeFile contents o a

no_mode_named : (contents : List ℕ → Option (List ℕ)) (o : Option (List ℕ)) (a : Answer) → o ≡ None → IsOfModeFile contents o a → ⊥
no_mode_named contents o a e (bad_mode line why is h) = subst (λ f. IsBadMode (all_told contents) f line why) e h
no_mode_named contents o a e (long_mode file is f l) = cc

mode_or_answer : (contents : List ℕ → Option (List ℕ)) (o : Option (List ℕ)) (m : SearchMode) (a : Answer) → IsModeBy (all_told contents) o m → IsOfModeFile contents o a → ⊥
mode_or_answer contents o m a h (bad_mode line why is k) = no_bad_mode contents o m line why h k
mode_or_answer contents o m a h (long_mode file is e l) = not_long contents file _ (subst (λ f. IsModeBy (all_told contents) f m) e h) l

same_name : (o : Option (List ℕ)) (file other : List ℕ) → o ≡ Some file → o ≡ Some other → file ≡ other
same_name o file other e f = cc

mode_answer-same : (contents : List ℕ → Option (List ℕ)) (o : Option (List ℕ)) (a b : Answer) → IsOfModeFile contents o a → IsOfModeFile contents o b → a ≡ b
mode_answer-same contents o a b (bad_mode line why x h) (bad_mode other cause y k) = x ∙ one_bad_mode contents o line other why cause h k ∙ sym y
mode_answer-same contents o a b (bad_mode line why x h) (long_mode file y e l) = absurd (not_long contents file _ (subst (λ f. IsBadMode (all_told contents) f line why) e h) l)
mode_answer-same contents o a b (long_mode file x e l) (bad_mode line why y h) = absurd (not_long contents file _ (subst (λ f. IsBadMode (all_told contents) f line why) e h) l)
mode_answer-same contents o a b (long_mode file x e l) (long_mode other y f k) = x ∙ ap (λ n. TooLong (Mode n)) (same_name o file other e f) ∙ sym y

-- an answer of a schedule's file
data IsOfScheduleFile (contents : List ℕ → Option (List ℕ)) (o : Option (List ℕ)) (a : Answer) : Type 0 where
  bad_schedule : (line : ℕ) (cause : ScheduleWhy) → a ≡ ScheduleAt line cause → IsBadSchedule (all_told contents) o line cause → IsOfScheduleFile contents o a
  long_schedule : (file : List ℕ) → a ≡ TooLong (Schedule file) → o ≡ Some file → IsLongFile (all_told contents) file → IsOfScheduleFile contents o a

no_schedule_named : (contents : List ℕ → Option (List ℕ)) (o : Option (List ℕ)) (a : Answer) → o ≡ None → IsOfScheduleFile contents o a → ⊥
no_schedule_named contents o a e (bad_schedule line cause is h) = subst (λ f. IsBadSchedule (all_told contents) f line cause) e h
no_schedule_named contents o a e (long_schedule file is f l) = cc

schedule_or_answer : (contents : List ℕ → Option (List ℕ)) (o : Option (List ℕ)) (bs : List Block) (a : Answer) → IsScheduleBy (all_told contents) o bs → IsOfScheduleFile contents o a → ⊥
schedule_or_answer contents o bs a h (bad_schedule line cause is k) = no_bad_schedule contents o bs line cause h k
schedule_or_answer contents o bs a h (long_schedule file is e l) = not_long contents file _ (subst (λ f. IsScheduleBy (all_told contents) f bs) e h) l

schedule_answer-same : (contents : List ℕ → Option (List ℕ)) (o : Option (List ℕ)) (a b : Answer) → IsOfScheduleFile contents o a → IsOfScheduleFile contents o b → a ≡ b
schedule_answer-same contents o a b (bad_schedule line cause x h) (bad_schedule other more y k) = x ∙ one_bad_schedule contents o line other cause more h k ∙ sym y
schedule_answer-same contents o a b (bad_schedule line cause x h) (long_schedule file y e l) = absurd (not_long contents file _ (subst (λ f. IsBadSchedule (all_told contents) f line cause) e h) l)
schedule_answer-same contents o a b (long_schedule file x e l) (bad_schedule line cause y h) = absurd (not_long contents file _ (subst (λ f. IsBadSchedule (all_told contents) f line cause) e h) l)
schedule_answer-same contents o a b (long_schedule file x e l) (long_schedule other y f k) = x ∙ ap (λ n. TooLong (Schedule n)) (same_name o file other e f) ∙ sym y

-- no request names both a mode's file and a schedule's
one_file_named : (r : Request) → (mode_file r ≡ None) ⊎ (schedule_file r ≡ None)
one_file_named (prove p file nodes) = inr refl
one_file_named (by_schedule file p) = inl refl
one_file_named (refutation cuts file p) = inr refl
one_file_named (generated n) = inr refl
one_file_named (models upto p) = inr refl
one_file_named (sides p) = inr refl

not_both_files : (contents : List ℕ → Option (List ℕ)) (r : Request) (a b : Answer) → IsOfModeFile contents (mode_file r) a → IsOfScheduleFile contents (schedule_file r) b → ⊥
not_both_files contents r a b h k = go (one_file_named r)
  where
    go : (mode_file r ≡ None) ⊎ (schedule_file r ≡ None) → ⊥
    go (inl e) = no_mode_named contents (mode_file r) a e h
    go (inr e) = no_schedule_named contents (schedule_file r) b e k

-- what a request is answered with
data DefinedFor (r : Request) (contents : List ℕ → Option (List ℕ)) (a : Answer) : Type 0 where
  of_mode : IsOfModeFile contents (mode_file r) a → DefinedFor r contents a
  of_schedule : IsOfScheduleFile contents (schedule_file r) a → DefinedFor r contents a
  of_files : AnswersFiles r (all_told contents) a → DefinedFor r contents a

for_same : (r : Request) (contents : List ℕ → Option (List ℕ)) (a b : Answer) → IsSettled a → IsSettled b → DefinedFor r contents a → DefinedFor r contents b → without_refutation a ≡ without_refutation b
for_same r contents a b w v (of_mode h) (of_mode k) = ap without_refutation (mode_answer-same contents (mode_file r) a b h k)
for_same r contents a b w v (of_mode h) (of_schedule k) = absurd (not_both_files contents r a b h k)
for_same r contents a b w v (of_mode h) (of_files k) = absurd (mode_or_answer contents (mode_file r) k.mode a k.is_mode h)
for_same r contents a b w v (of_schedule h) (of_mode k) = absurd (not_both_files contents r b a k h)
for_same r contents a b w v (of_schedule h) (of_schedule k) = ap without_refutation (schedule_answer-same contents (schedule_file r) a b h k)
for_same r contents a b w v (of_schedule h) (of_files k) = absurd (schedule_or_answer contents (schedule_file r) k.blocks a k.are_blocks h)
for_same r contents a b w v (of_files h) (of_mode k) = absurd (mode_or_answer contents (mode_file r) h.mode b h.is_mode k)
for_same r contents a b w v (of_files h) (of_schedule k) = absurd (schedule_or_answer contents (schedule_file r) h.blocks b h.are_blocks k)
for_same r contents a b w v (of_files h) (of_files k) = files_same r contents a b w v h k

-- by the words
data DefinedBy (o : Option Request) (contents : List ℕ → Option (List ℕ)) (a : Answer) : Type 0 where
  no_request : o ≡ None → a ≡ Words → DefinedBy o contents a
  requested : (r : Request) → o ≡ Some r → DefinedFor r contents a → DefinedBy o contents a

defined_by : (o : Option Request) (contents : List ℕ → Option (List ℕ)) (a : Answer) → IsSettled a → AnswersAsked o (all_told contents) a → DefinedBy o contents a
defined_by o contents UnreadWords w h = absurd w
defined_by o contents Memory w h = absurd w
defined_by o contents (ConflictLimit c) w h = absurd w
defined_by o contents (ReadFault file) w h = absurd w
defined_by None contents a w h = no_request refl h
defined_by (Some r) contents (ModeAt line why) w h = requested r refl (of_mode (bad_mode line why refl h))
defined_by (Some r) contents (TooLong (Mode file)) w h = requested r refl (of_mode (long_mode file refl h.0 h.1))
defined_by (Some r) contents (ScheduleAt line cause) w h = requested r refl (of_schedule (bad_schedule line cause refl h))
defined_by (Some r) contents (TooLong (Schedule file)) w h = requested r refl (of_schedule (long_schedule file refl h.0 h.1))
defined_by (Some r) contents a w h = requested r refl (of_files h)

asked_same : (r s : Request) (o : Option Request) → o ≡ Some r → o ≡ Some s → r ≡ s
asked_same r s o e f = cc

by_same : (o : Option Request) (contents : List ℕ → Option (List ℕ)) (a b : Answer) → IsSettled a → IsSettled b → DefinedBy o contents a → DefinedBy o contents b → without_refutation a ≡ without_refutation b
by_same o contents a b w v (no_request e x) (no_request f y) = ap without_refutation (x ∙ sym y)
by_same o contents a b w v (no_request e x) (requested s f k) = cc
by_same o contents a b w v (requested r e h) (no_request f y) = cc
by_same o contents a b w v (requested r e h) (requested s f k) = for_same s contents a b w v (subst (λ t. DefinedFor t contents a) (asked_same r s o e f) h) k

pub answer-same : (words : List (List ℕ)) (contents : List ℕ → Option (List ℕ)) (a b : Answer) → Defined words contents a → Defined words contents b → without_refutation a ≡ without_refutation b
answer-same words contents a b h k = by_same (asked_by words) contents a b h.0 k.0 (defined_by (asked_by words) contents a h.0 h.1) (defined_by (asked_by words) contents b k.0 k.1)

outcome-without : (a : Answer) → outcome_of (without_refutation a) ≡ outcome_of a
outcome-without (Proved claim n mode tree text) = refl
outcome-without a = refl

-- so there is one outcome
pub outcome-same : (words : List (List ℕ)) (contents : List ℕ → Option (List ℕ)) (a b : Answer) → Defined words contents a → Defined words contents b → outcome_of a ≡ outcome_of b
outcome-same words contents a b h k = sym (outcome-without a) ∙ ap outcome_of (answer-same words contents a b h k) ∙ outcome-without b
