-- What is answered by files.
use Rattle.std.proofs.Common.{ℕ, List, sym, subst}
use Rattle.outside.specs.Seen.{Seen}
use Rattle.stt_core.specs.PlainProblem.{PlainProblem}
use Rattle.thf_include.specs.View.{PlacedTree}
use Rattle.thf_include.specs.Gathering.{Ending, done, stopped}
use Rattle.thf_include.specs.declared.refused.GatherRefused.TheVariants.{Memory}
use Rattle.szs_report.specs.declared.answer.Answer.{Answer}
use Rattle.szs_report.specs.declared.answer.Answer.TheVariants as answer
use Rattle.request_answers.specs.Files.{OfFiles, Statements}
use Rattle.request_answers.specs.Answers.{AnswersStated, AnswersEnding}
use Rattle.request_answers.specs.Internal.Unread.{IsIllAt, IsUnstated, IsUnread, IsFilesAnswer}

-- an ending with another property
pub of_files : (name : List ℕ) (seen : Seen) (names : List (List ℕ)) (P Q : Ending → Type 0) → ((e : Ending) → P e → Q e) → OfFiles name seen names P → OfFiles name seen names Q
of_files name seen names P Q f h = record { texts = h.texts; told_texts = h.told_texts; ending = h.ending; gathers = h.gathers; holds = f h.ending h.holds }

module _ (Answers : PlainProblem → Answer → Type 0) (names : List (List ℕ)) (a : Answer) where
  ill_answered : (ss : List PlacedTree) → IsIllAt names ss a → AnswersEnding Answers names a (done ss)
  ill_answered ss h = subst (AnswersStated Answers names a) (sym h.is) h.answered

  unstated_answered : (e : Ending) → IsUnstated names a e → AnswersEnding Answers names a e
  unstated_answered (done ss) h = ill_answered ss h
  unstated_answered (stopped s) h = h

  stated_answered : (p : PlainProblem) → Answers p a → (e : Ending) → Statements p e → AnswersEnding Answers names a e
  stated_answered p h e s = subst (AnswersEnding Answers names a) (sym s.gathered) (subst (AnswersStated Answers names a) (sym s.read) h)

-- files that state no problem
pub unread_answers : (Answers : PlainProblem → Answer → Type 0) (name : List ℕ) (seen : Seen) (a : Answer) → IsUnread name seen a → IsFilesAnswer Answers name seen a
unread_answers Answers name seen answer.Memory h = tt
unread_answers Answers name seen a h = (h.0, of_files name seen h.0 _ _ (unstated_answered Answers h.0 a) h.1)

-- files that state a problem
pub stated_answers : (Answers : PlainProblem → Answer → Type 0) (name : List ℕ) (seen : Seen) (p : PlainProblem) (a : Answer) → (names : List (List ℕ)) → OfFiles name seen names (Statements p) → Answers p a → IsFilesAnswer Answers name seen a
stated_answers Answers name seen p answer.Memory names s h = tt
stated_answers Answers name seen p a names s h = (names, of_files name seen names _ _ (stated_answered Answers names a p h) s)
