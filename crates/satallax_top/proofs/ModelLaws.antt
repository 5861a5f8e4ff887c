-- What is answered of finite models has the meaning that it claims.
use Rattle.std.proofs.Common.{◌≡◌, ℕ, List, ◌++◌, Option, Some, None, refl, sym, ap, subst, ◌∙◌}
use Rattle.outside.specs.Seen.{Seen}
use Rattle.stt_core.specs.PlainProblem.{PlainProblem}
use Rattle.mode_file.specs.declared.Mode.{Mode}
use Rattle.mode_schedule.specs.declared.Block.{Block}
use Rattle.cli_words.specs.Requests.{Request, prove, by_schedule, refutation, generated, models, sides, asked_by}
use Rattle.finite_models.specs.Symbols.{model_symbols}
use Rattle.finite_models.specs.Candidates.{model_of}
use Rattle.szs_report.specs.Outcomes.{outcome_of}
use Rattle.szs_report.specs.Report.{report_of}
use Rattle.szs_report.specs.ModelText.{model_text}
use Rattle.szs_report.specs.declared.answer.Answer.{Answer}
use Rattle.szs_report.specs.declared.answer.Answer.TheVariants.{Proved, CounterSatisfiable, Satisfiable, NoneSmall, ModelsTooMany, SyntaxAt, TypeAt, IncludeAt, TooLong, ReadFault}
use Rattle.szs_report.specs.declared.answer.Claim.TheVariants.{Theorem, Unsatisfiable}
use Rattle.szs_report.specs.declared.outcome.Outcome.{Outcome}
use Rattle.request_answers.specs.Requested.{asked_name}
use Rattle.request_answers.specs.Files.{OfAsked, Statements}
use Rattle.request_answers.specs.Names.{names_in}
use Rattle.request_answers.specs.Modelled.{IsModelFound, AnswersModels}
use Rattle.request_answers.specs.Answers.{AnswersProblem, AnswersFiles, AnswersAsked, IsAnswer}
use Rattle.satallax_top.specs.Headline.{Appends}
use Rattle.satallax_top.specs.Models.{IsModelOutcome, IsOfModels, SaysOfModels, HasModelsSo, model_answer_by, IsModelReport}
use Rattle.satallax_top.proofs.HeadlineLaws.{IsRefusal, files_answered}

of_models-no_refusal : (a : Answer) → IsOfModels (outcome_of a) → IsRefusal a → ⊥
of_models-no_refusal (ReadFault file) s x = s
of_models-no_refusal (TooLong file) s x = s
of_models-no_refusal (SyntaxAt file at) s x = s
of_models-no_refusal (IncludeAt file at why) s x = s
of_models-no_refusal (TypeAt file at why) s x = s
of_models-no_refusal a s x = x

-- Such an answer is given by files. The conclusion is a variable, so that no record is compared field by field.
of_models_asked : (R : Type 0) (o : Option Request) (seen : Seen) (a : Answer) → IsOfModels (outcome_of a) → AnswersAsked o seen a → ((r : Request) → o ≡ Some r → AnswersFiles r seen a → R) → R
of_models_asked R None seen (CounterSatisfiable n lines) s h k = cc
of_models_asked R None seen (Satisfiable n lines) s h k = cc
of_models_asked R None seen (NoneSmall n) s h k = cc
of_models_asked R None seen (ModelsTooMany n) s h k = cc
of_models_asked R (Some r) seen (CounterSatisfiable n lines) s h k = k r refl h
of_models_asked R (Some r) seen (Satisfiable n lines) s h k = k r refl h
of_models_asked R (Some r) seen (NoneSmall n) s h k = k r refl h
of_models_asked R (Some r) seen (ModelsTooMany n) s h k = k r refl h
of_models_asked R o seen (Proved Theorem n i tree text) s h k = absurd s
of_models_asked R o seen (Proved Unsatisfiable n i tree text) s h k = absurd s
of_models_asked R o seen a s h k = absurd s

-- a problem that is answered so was one for which models were looked for
of_models_problem : (R : Type 0) (seen : Seen) (r : Request) (m : Mode) (bs : List Block) (p : PlainProblem) (a : Answer) → IsOfModels (outcome_of a) → AnswersProblem seen r m bs p a → ((upto : ℕ) (file : List ℕ) → r ≡ models upto file → AnswersModels upto p a → R) → R
of_models_problem R seen (models upto file) m bs p a s h k = k upto file refl h
of_models_problem R seen (prove q file nodes) m bs p (CounterSatisfiable n lines) s h k = absurd h
of_models_problem R seen (prove q file nodes) m bs p (Satisfiable n lines) s h k = absurd h
of_models_problem R seen (prove q file nodes) m bs p (NoneSmall n) s h k = absurd h
of_models_problem R seen (prove q file nodes) m bs p (ModelsTooMany n) s h k = absurd h
of_models_problem R seen (by_schedule file q) m bs p (CounterSatisfiable n lines) s h k = absurd h
of_models_problem R seen (by_schedule file q) m bs p (Satisfiable n lines) s h k = absurd h
of_models_problem R seen (by_schedule file q) m bs p (NoneSmall n) s h k = absurd h
of_models_problem R seen (by_schedule file q) m bs p (ModelsTooMany n) s h k = absurd h
of_models_problem R seen (refutation cuts file q) m bs p (CounterSatisfiable n lines) s h k = absurd h.holds
of_models_problem R seen (refutation cuts file q) m bs p (Satisfiable n lines) s h k = absurd h.holds
of_models_problem R seen (refutation cuts file q) m bs p (NoneSmall n) s h k = absurd h.holds
of_models_problem R seen (refutation cuts file q) m bs p (ModelsTooMany n) s h k = absurd h.holds
of_models_problem R seen (generated j) m bs p (CounterSatisfiable n lines) s h k = absurd h
of_models_problem R seen (generated j) m bs p (Satisfiable n lines) s h k = absurd h
of_models_problem R seen (generated j) m bs p (NoneSmall n) s h k = absurd h
of_models_problem R seen (generated j) m bs p (ModelsTooMany n) s h k = absurd h
of_models_problem R seen (sides q) m bs p (CounterSatisfiable n lines) s h k = absurd h
of_models_problem R seen (sides q) m bs p (Satisfiable n lines) s h k = absurd h
of_models_problem R seen (sides q) m bs p (NoneSmall n) s h k = absurd h
of_models_problem R seen (sides q) m bs p (ModelsTooMany n) s h k = absurd h
of_models_problem R seen r m bs p (Proved Theorem n i tree text) s h k = absurd s
of_models_problem R seen r m bs p (Proved Unsatisfiable n i tree text) s h k = absurd s
of_models_problem R seen r m bs p a s h k = absurd s

-- what is answered holds
said_of_models : (upto : ℕ) (p : PlainProblem) (a : Answer) → IsOfModels (outcome_of a) → AnswersModels upto p a → SaysOfModels (outcome_of a) upto p
said_of_models upto p (CounterSatisfiable n lines) s h = let f = h.1 in let shown = f.found.shows in (h.0, (model_of n (model_symbols p) f.values, shown.0, shown.1, shown.2))
said_of_models upto p (Satisfiable n lines) s h = let f = h.1 in let shown = f.found.shows in (h.0, (model_of n (model_symbols p) f.values, shown.0, shown.1, shown.2))
said_of_models upto p (NoneSmall n) s h = (h.0, h.1.shows)
said_of_models upto p (ModelsTooMany n) s h = (h.small, h.shows)
said_of_models upto p (Proved Theorem n i tree text) s h = absurd s
said_of_models upto p (Proved Unsatisfiable n i tree text) s h = absurd s
said_of_models upto p a s h = absurd s

-- files that are answered so, by the request that the words make
of_models_answer : (R : Type 0) (words : List (List ℕ)) (seen : Seen) (a : Answer) → IsOfModels (outcome_of a) → IsAnswer words seen a
    → ((upto : ℕ) (file : List ℕ) (names : List (List ℕ)) (p : PlainProblem) → asked_by words ≡ Some (models upto file) → OfAsked (asked_by words) seen names (Statements p) → AnswersModels upto p a → R) → R
of_models_answer R words seen a s answer k =
    of_models_asked R (asked_by words) seen a s answer
    (λ (r : Request) (asked : asked_by words ≡ Some r) (files : AnswersFiles r seen a).
    let f = files_answered r seen a (of_models-no_refusal a s) files in
    of_models_problem R seen r f.mode f.blocks f.problem a s f.answered
    (λ (upto : ℕ) (file : List ℕ) (is : r ≡ models upto file) (h : AnswersModels upto f.problem a).
    k upto file f.names f.problem (asked ∙ ap Some is) (subst (λ x. OfAsked x seen f.names (Statements f.problem)) (sym asked) f.stated) h))

pub models_answer : (words : List (List ℕ)) (seen : Seen) (o : Outcome) (a : Answer) → IsAnswer words seen a → o ≡ outcome_of a → IsOfModels o → HasModelsSo words seen o
models_answer words seen o a answer is h =
    let s : IsOfModels (outcome_of a) = subst IsOfModels is h in
    subst (HasModelsSo words seen) (sym is)
    (of_models_answer (HasModelsSo words seen (outcome_of a)) words seen a s answer
    (λ upto file names p asked stated h. record { upto = upto; file = file; asked = asked; names = names; problem = p; stated = stated; says = said_of_models upto p a s h }))

-- A MODEL'S REPORT

-- a model's answer, by the conjecture
record IsModelAnswer (upto : ℕ) (p : PlainProblem) (a : Answer) : Type 0 where
  size : ℕ
  lines : List ℕ
  found : IsModelFound upto p size lines
  is : a ≡ model_answer_by p.conjecture size (model_text (names_in p) (model_symbols p) found.values)

model_form : (upto : ℕ) (p : PlainProblem) (a : Answer) → IsModelOutcome (outcome_of a) → AnswersModels upto p a → IsModelAnswer upto p a
model_form upto p (CounterSatisfiable n lines) s h =
    let f = h.1 in
    record { size = n; lines = lines; found = f; is = ap (CounterSatisfiable n) f.lines_are ∙ ap (λ o. model_answer_by o n (model_text (names_in p) (model_symbols p) f.values)) (sym h.0.1) }
model_form upto p (Satisfiable n lines) s h =
    let f = h.1 in
    record { size = n; lines = lines; found = f; is = ap (Satisfiable n) f.lines_are ∙ ap (λ o. model_answer_by o n (model_text (names_in p) (model_symbols p) f.values)) (sym h.0) }
model_form upto p (Proved Theorem n i tree text) s h = absurd s
model_form upto p (Proved Unsatisfiable n i tree text) s h = absurd s
model_form upto p a s h = absurd s

of_models : (a : Answer) → IsModelOutcome (outcome_of a) → IsOfModels (outcome_of a)
of_models (CounterSatisfiable n lines) s = tt
of_models (Satisfiable n lines) s = tt
of_models (Proved Theorem n i tree text) s = absurd s
of_models (Proved Unsatisfiable n i tree text) s = absurd s
of_models a s = absurd s

model_reported : (words : List (List ℕ)) (seen : Seen) (a : Answer) → IsAnswer words seen a → IsModelOutcome (outcome_of a) → IsModelReport words seen (outcome_of a) (report_of (asked_name words) a)
model_reported words seen a answer s =
    of_models_answer (IsModelReport words seen (outcome_of a) (report_of (asked_name words) a)) words seen a (of_models a s) answer
    (λ upto file names p asked stated h.
    let m = model_form upto p a s h in
    let shown = m.found.found.shows in
    record {
      names = names;
      problem = p;
      stated = stated;
      size = m.size;
      values = m.found.values;
      is_model = shown.0;
      has_size = shown.1;
      meets = shown.2;
      is_outcome = ap outcome_of m.is;
      is_report = ap (report_of (asked_name words)) m.is;
    })

-- the bytes that are appended for an answer that is a model
pub model_appended : (words : List (List ℕ)) (seen : Seen) (o : Outcome) (a : Answer) (old new : List ℕ) → IsAnswer words seen a → o ≡ outcome_of a → new ≡ old ++ report_of (asked_name words) a → IsModelOutcome o → Appends old new (IsModelReport words seen o)
model_appended words seen o a old new answer is w h =
    let s : IsModelOutcome (outcome_of a) = subst IsModelOutcome is h in
    record {
      written = report_of (asked_name words) a;
      appended = w;
      is_report = subst (λ x. IsModelReport words seen x (report_of (asked_name words) a)) (sym is) (model_reported words seen a answer s);
    }
