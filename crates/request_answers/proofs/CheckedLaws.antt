-- What the check of a text is answered with.
use Rattle.std.proofs.Common.{◌≡◌, ℕ, true, false, List, IfSome, Some, Err, refl, sym, subst, ◌∙◌}
use Rattle.stt_core.specs.PlainProblem.{PlainProblem}
use Rattle.tableau_calculus.specs.declared.refutation.Why.{Why}
use Rattle.refute_print.specs.Trees.{RefutationTree}
use Rattle.refute_text.specs.Answered.{reading_of}
use Rattle.outside.specs.Lines.{lines_of}
use Rattle.refute_text.specs.Reading.{TextReading, read, bad_line, no_start, no_end, ReadsText}
use Rattle.refute_text.proofs.ReadingLaws.{reading-same}
use Rattle.refute_text.specs.declared.refusal.TextRefused.{TextRefused}
use Rattle.refute_text.specs.declared.refusal.TextRefused.TheVariants as unread
use Rattle.refute_text.specs.declared.refusal.TextRefused.TheVariants.{BadLine, NoStart, NoEnd}
use Rattle.refute_check.specs.Refusal.{IfLine}
use Rattle.refute_check.proofs.AcceptanceLaws.{one_text_failure, fails_not_accepted}
use Rattle.refute_check.proofs.StrictLaws.{fails_not_strictly}
use Rattle.refute_check.proofs.OneStrict.{one_strict_text_failure}
use Rattle.refute_check.specs.declared.refusal.CheckRefused.{CheckRefused}
use Rattle.refute_check.specs.declared.refusal.CheckRefused.TheVariants as failed
use Rattle.refute_check.specs.declared.refusal.CheckRefused.TheVariants.{Line}
use Rattle.cli_words.specs.declared.Cuts.{Cuts}
use Rattle.cli_words.specs.declared.Cuts.TheVariants.{Allowed, Forbidden}
use Rattle.szs_report.specs.declared.answer.Answer.{Answer}
use Rattle.szs_report.specs.declared.answer.Answer.TheVariants.{Accepted, Refused, Memory}
use Rattle.request_answers.specs.Internal.Unread.{verdict_of}
use Rattle.request_answers.specs.Checked.{Accepts, FailsCheck, IsAcceptedText, FailsFirst, IsRefusedText, AnswersBytes}
use Rattle.request_answers.specs.Internal.RefusedTexts.{unread_answer, failed_answer}

-- the answer where a text isn't read
pub unread_answers : (cuts : Cuts) (p : PlainProblem) (bytes : List ℕ) (refused : TextRefused) → IfSome (reading_of (Err refused)) (ReadsText (lines_of bytes)) → AnswersBytes cuts p bytes (unread_answer refused)
unread_answers cuts p bytes (BadLine line) h = record { reading = bad_line line; reads = h; fails = (refl, refl) }
unread_answers cuts p bytes (NoStart line) h = record { reading = no_start line; reads = h; fails = (refl, refl) }
unread_answers cuts p bytes (NoEnd line) h = record { reading = no_end line; reads = h; fails = (refl, refl) }
unread_answers cuts p bytes unread.Memory h = tt

-- the answer where what is read isn't accepted
pub failed_answers : (cuts : Cuts) (p : PlainProblem) (bytes : List ℕ) (r : RefutationTree) (first : ℕ) (refused : CheckRefused) → ReadsText (lines_of bytes) (read r first) → IfLine refused (FailsCheck cuts p r first) → AnswersBytes cuts p bytes (failed_answer refused)
failed_answers cuts p bytes r first (Line line why) reads h = record { reading = read r first; reads = reads; fails = h }
failed_answers cuts p bytes r first failed.Memory reads h = tt

-- a check refuses nothing that it accepts, and refuses at one line, for one cause
refuses_not_accepts : (cuts : Cuts) (p : PlainProblem) (r : RefutationTree) (first line : ℕ) (why : Why) → FailsCheck cuts p r first line why → Accepts cuts p r → ⊥
refuses_not_accepts Allowed p r first line why f a = fails_not_accepted p r first line why f a
refuses_not_accepts Forbidden p r first line why f a = fails_not_strictly p r first line why f a

refuses_once : (cuts : Cuts) (p : PlainProblem) (r : RefutationTree) (first line other : ℕ) (why cause : Why) → FailsCheck cuts p r first line why → FailsCheck cuts p r first other cause → (line ≡ other) × (why ≡ cause)
refuses_once Allowed p r first line other why cause f g = one_text_failure p r first line other why cause f g
refuses_once Forbidden p r first line other why cause f g = one_strict_text_failure p r first line other why cause f g

-- no text is both accepted and refused
pub accepted_not_refused : (cuts : Cuts) (p : PlainProblem) (bytes : List ℕ) (line : ℕ) (why : Why) → IsAcceptedText cuts p bytes → IsRefusedText cuts p bytes line why → ⊥
accepted_not_refused cuts p bytes line why a r = go r.reading (reading-same (lines_of bytes) (read a.refutation a.first) r.reading a.reads r.reads) r.fails
  where
    go : (o : TextReading) → read a.refutation a.first ≡ o → FailsFirst cuts p o line why → ⊥
    go (read s k) e f = let same : a.refutation ≡ s = cc in refuses_not_accepts cuts p s k line why f (subst (Accepts cuts p) same a.accepted)
    go (bad_line at) e f = cc
    go (no_start at) e f = cc
    go (no_end at) e f = cc

-- a text is refused at one line, for one cause
pub one_refusal : (cuts : Cuts) (p : PlainProblem) (bytes : List ℕ) (line other : ℕ) (why cause : Why) → IsRefusedText cuts p bytes line why → IsRefusedText cuts p bytes other cause → (line ≡ other) × (why ≡ cause)
one_refusal cuts p bytes line other why cause a b =
    go a.reading a.fails (subst (λ o. FailsFirst cuts p o other cause) (reading-same (lines_of bytes) b.reading a.reading b.reads a.reads) b.fails)
  where
    go : (o : TextReading) → FailsFirst cuts p o line why → FailsFirst cuts p o other cause → (line ≡ other) × (why ≡ cause)
    go (read s k) f g = refuses_once cuts p s k line other why cause f g
    go (bad_line at) f g = (f.0 ∙ sym g.0, f.1 ∙ sym g.1)
    go (no_start at) f g = (f.0 ∙ sym g.0, f.1 ∙ sym g.1)
    go (no_end at) f g = (f.0 ∙ sym g.0, f.1 ∙ sym g.1)

-- what a verdict says of the text
pub verdict_accepts : (p : PlainProblem) (bytes : List ℕ) (a : Answer) → verdict_of a ≡ Some true → AnswersBytes Allowed p bytes a → IsAcceptedText Allowed p bytes
verdict_accepts p bytes Memory e h = cc
verdict_accepts p bytes Accepted e h = h
verdict_accepts p bytes a e h = cc

pub verdict_refuses : (p : PlainProblem) (bytes : List ℕ) (a : Answer) → verdict_of a ≡ Some false → AnswersBytes Allowed p bytes a → IsAcceptedText Allowed p bytes → ⊥
verdict_refuses p bytes Memory e h k = cc
verdict_refuses p bytes Accepted e h k = cc
verdict_refuses p bytes (Refused line why) e h k = accepted_not_refused Allowed p bytes line why k h
verdict_refuses p bytes a e h k = absurd h
