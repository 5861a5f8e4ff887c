-- What the check of a refutation's text is answered with.
use Rattle.std.specs.Prelude.{◌≡◌, ℕ, List}
use Rattle.stt_core.specs.PlainProblem.{PlainProblem}
use Rattle.delta_defs.specs.Unfolding.{taken_names}
use Rattle.tableau_calculus.specs.declared.refutation.Why.{Why}
use Rattle.tableau_calculus.specs.declared.refutation.Why.TheVariants.{Form, Start, End}
use Rattle.tableau_calculus.specs.declared.refutation.Refutation.{Refutation}
use Rattle.refute_print.specs.Trees.{RefutationTree}
use Rattle.refute_print.specs.Named.{named_refutation}
use Rattle.outside.specs.Lines.{lines_of}
use Rattle.outside.specs.Seen.{Seen}
use Rattle.refute_text.specs.Reading.{TextReading, read, bad_line, no_start, no_end, ReadsText}
use Rattle.refute_check.specs.Numbered.{numbered_refutation}
use Rattle.refute_check.specs.Acceptance.{IsAcceptedFor, TextFailsAt}
use Rattle.refute_check.specs.Strict.{IsStrictlyAcceptedFor, TextFailsStrictlyAt}
use Rattle.cli_words.specs.declared.Cuts.{Cuts}
use Rattle.cli_words.specs.declared.Cuts.TheVariants.{Allowed, Forbidden}
use Rattle.request_answers.specs.Names.{names_in}
use Rattle.request_answers.specs.NamedFiles.{OfFile, IsLongFile}
use Rattle.szs_report.specs.declared.answer.NamedFile.TheVariants.{Check}
use Rattle.szs_report.specs.declared.answer.Answer.{Answer}
use Rattle.szs_report.specs.declared.answer.Answer.TheVariants.{Accepted, Refused, TooLong, ReadFault, Memory}

-- the refutation is accepted for the problem, by a check that allows cuts, or forbids them
abbrev pub Accepts : Cuts → PlainProblem → RefutationTree → Type 0
Accepts Allowed p t = IsAcceptedFor p t
Accepts Forbidden p t = IsStrictlyAcceptedFor p t

-- the refutation, of which the first row or line is line `first`, fails first at this line in such a check, and why
abbrev pub FailsCheck : Cuts → PlainProblem → RefutationTree → ℕ → ℕ → Why → Type 0
FailsCheck Allowed p t first line why = TextFailsAt p t first line why
FailsCheck Forbidden p t first line why = TextFailsStrictlyAt p t first line why

-- The bytes hold the text of a refutation that is accepted for the problem.
pub record IsAcceptedText (cuts : Cuts) (p : PlainProblem) (bytes : List ℕ) : Type 0 where
  pub refutation : RefutationTree
  pub first : ℕ
  pub reads : ReadsText (lines_of bytes) (read refutation first)
  pub accepted : Accepts cuts p refutation

-- what is read fails first at this line, and why: its form is wrong there, or the text isn't right there
abbrev pub FailsFirst : Cuts → PlainProblem → TextReading → ℕ → Why → Type 0
FailsFirst cuts p (read r first) line why = FailsCheck cuts p r first line why
FailsFirst cuts p (bad_line at) line why = (line ≡ at) × (why ≡ Form)
FailsFirst cuts p (no_start at) line why = (line ≡ at) × (why ≡ Start)
FailsFirst cuts p (no_end at) line why = (line ≡ at) × (why ≡ End)

-- The bytes hold no such text.
pub record IsRefusedText (cuts : Cuts) (p : PlainProblem) (bytes : List ℕ) (line : ℕ) (why : Why) : Type 0 where
  pub reading : TextReading
  pub reads : ReadsText (lines_of bytes) reading
  pub fails : FailsFirst cuts p reading line why

-- what the bytes of a text are answered with; memory may run out anywhere
abbrev pub AnswersBytes : Cuts → PlainProblem → List ℕ → Answer → Type 0
AnswersBytes cuts p bytes Memory = Unit {0}
AnswersBytes cuts p bytes Accepted = IsAcceptedText cuts p bytes
AnswersBytes cuts p bytes (Refused line why) = IsRefusedText cuts p bytes line why
AnswersBytes cuts p bytes answer = ⊥

-- what the text in a file is answered with, where it is checked against this problem; it is a fault's, where the file can't be read
abbrev pub AnswersText : Cuts → Seen → List ℕ → PlainProblem → Answer → Type 0
AnswersText cuts seen file p Memory = Unit {0}
AnswersText cuts seen file p (ReadFault (Check name)) = name ≡ file
AnswersText cuts seen file p (TooLong (Check name)) = (name ≡ file) × IsLongFile seen file
AnswersText cuts seen file p answer = OfFile seen file (λ bytes. AnswersBytes cuts p bytes answer)

-- The bytes hold one refutation, which is this one, with the names of the definitions that are taken: so they are read, and in no other
-- way.
pub record HoldsOnly (p : PlainProblem) (bytes : List ℕ) (refutation : Refutation) : Type 0 where
  pub first : ℕ
  pub reads : ReadsText (lines_of bytes) (read (named_refutation (names_in p) (taken_names p) refutation) first)
  pub only :
      (reading : TextReading)
      → ReadsText (lines_of bytes) reading
      → reading ≡ read (named_refutation (names_in p) (taken_names p) refutation) first
  pub numbered : numbered_refutation (names_in p) (named_refutation (names_in p) (taken_names p) refutation) ≡ refutation
