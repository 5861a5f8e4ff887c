-- What is said of a refusal.
use Rattle.std.specs.Prelude.{◌≡◌, ℕ, ◌+◌, List}
use Rattle.stt_core.specs.Typing.{Scope}
use Rattle.tableau_calculus.specs.Literals.{Literal}
use Rattle.tableau_calculus.specs.Accepted.{FirstFailure}
use Rattle.tableau_calculus.specs.declared.refutation.Refutation.{Refutation}
use Rattle.tableau_calculus.specs.declared.refutation.Why.{Why}
use Rattle.refute_check.specs.declared.refusal.CheckRefused.{CheckRefused}
use Rattle.refute_check.specs.declared.refusal.CheckRefused.TheVariants.{Line, Memory}

-- unless memory ran out, this holds of its line and its word
abbrev pub IfLine : CheckRefused → (ℕ → Why → Type 0) → Type 0
IfLine (Line line why) P = P line why
IfLine Memory P = Unit {0}

-- The refutation fails first at this line of a text, of which its first row, or else its first line, or else the end line, is line
-- `first`.
pub record FailsAt (scope : Scope) (start : List Literal) (refutation : Refutation) (first line : ℕ) (why : Why) : Type 0 where
  pub place : ℕ
  pub is_first : FirstFailure scope start refutation place why
  pub line_is : line ≡ first + place
