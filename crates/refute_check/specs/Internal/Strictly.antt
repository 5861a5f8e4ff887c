-- What a check looks for: failures, or strict ones.
use Rattle.std.specs.Prelude.{◌≡◌, ℕ, ◌+◌, Bool, true, false, List, Option, Some, None}
use Rattle.stt_core.specs.Typing.{Scope}
use Rattle.stt_core.specs.PlainProblem.{PlainProblem}
use Rattle.tableau_calculus.specs.Literals.{Literal}
use Rattle.tableau_calculus.specs.Accepted.{IsAccepted, FirstFailure}
use Rattle.tableau_calculus.specs.CutFree.{HasNoCut}
use Rattle.tableau_calculus.specs.declared.refutation.Refutation.{Refutation}
use Rattle.tableau_calculus.specs.declared.refutation.Why.{Why}
use Rattle.tableau_calculus.specs.declared.refutation.Why.TheVariants.{Form, Start, End, Typing, Twice, Cut, Principal, Child, Last, Defs}
use Rattle.refute_print.specs.Trees.{RefutationTree}
use Rattle.refute_check.specs.Acceptance.{IsAcceptedFor, TextFailsAt}
use Rattle.refute_check.specs.Strict.{FirstStrictFailure, IsStrictlyAcceptedFor, TextFailsStrictlyAt}

-- of the causes of a line, which is a cut, the first
abbrev pub cut_or : Why → Why
cut_or Form = Cut
cut_or Start = Cut
cut_or End = Cut
cut_or Typing = Typing
cut_or Twice = Cut
cut_or Cut = Cut
cut_or Principal = Cut
cut_or Child = Cut
cut_or Last = Cut
cut_or Defs = Cut

-- why a line fails in a check that may be strict, by whether it is a cut and by how it fails else
abbrev pub with_cut : Bool → Bool → Option Why → Option Why
with_cut false cut found = found
with_cut true false found = found
with_cut true true None = Some Cut
with_cut true true (Some why) = Some (cut_or why)

-- the refutation is accepted, and has no cut where that is asked
pub record IsAcceptedBy (strict : Bool) (scope : Scope) (start : List Literal) (refutation : Refutation) : Type 0 where
  pub accepted : IsAccepted scope start refutation
  pub no_cut : strict ≡ true → HasNoCut refutation.lines

abbrev pub FirstFailureBy : Bool → Scope → List Literal → Refutation → ℕ → Why → Type 0
FirstFailureBy false scope start refutation place why = FirstFailure scope start refutation place why
FirstFailureBy true scope start refutation place why = FirstStrictFailure scope start refutation place why

-- the first failure stands at this line of a text, of which the first row or line is line `first`
pub record FailsAtBy (strict : Bool) (scope : Scope) (start : List Literal) (refutation : Refutation) (first line : ℕ) (why : Why) : Type 0
  where
    pub place : ℕ
    pub is_first : FirstFailureBy strict scope start refutation place why
    pub line_is : line ≡ first + place

abbrev pub IsTextAcceptedBy : Bool → PlainProblem → RefutationTree → Type 0
IsTextAcceptedBy false p t = IsAcceptedFor p t
IsTextAcceptedBy true p t = IsStrictlyAcceptedFor p t

abbrev pub TextFailsBy : Bool → PlainProblem → RefutationTree → ℕ → ℕ → Why → Type 0
TextFailsBy false p t first line why = TextFailsAt p t first line why
TextFailsBy true p t first line why = TextFailsStrictlyAt p t first line why
