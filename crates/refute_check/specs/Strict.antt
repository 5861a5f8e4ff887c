-- When a text is accepted strictly: it is accepted, and no line is a cut.
use Rattle.std.specs.Prelude.{◌≡◌, ◌<◌, ℕ, ◌+◌, true, false, List, [], ◌∷◌, ◌++◌, length}
use Rattle.stt_core.specs.Typing.{Scope}
use Rattle.stt_core.specs.Declarations.{scope_of}
use Rattle.stt_core.specs.PlainProblem.{PlainProblem}
use Rattle.tableau_calculus.specs.Literals.{Literal}
use Rattle.tableau_calculus.specs.Witnesses.{Row, with_rows, IsTable}
use Rattle.tableau_calculus.specs.Start.{start}
use Rattle.tableau_calculus.specs.Accepted.{Within, IsTypedLine, AreRightLines, RowFails, LineFails}
use Rattle.tableau_calculus.specs.CutFree.{is_cut_use, HasNoCut}
use Rattle.tableau_calculus.specs.declared.refutation.Line.{Line}
use Rattle.tableau_calculus.specs.declared.refutation.Refutation.{Refutation}
use Rattle.tableau_calculus.specs.declared.refutation.Why.{Why}
use Rattle.tableau_calculus.specs.declared.refutation.Why.TheVariants.{Typing, Cut, Last, Defs}
use Rattle.refute_print.specs.Trees.{RefutationTree}
use Rattle.refute_print.specs.Named.{names_of}
use Rattle.refute_check.specs.Numbered.{numbered_refutation}
use Rattle.refute_check.specs.Acceptance.{taken_texts, NamesDefinitions, refuted_problem, IsAcceptedFor, DifferFirst}

-- Why a line fails strictly, of its causes the first: a cut whose literals are typed is one, and comes before what else may fail.
abbrev pub LineFailsStrictly : Scope → List Row → List Line → Line → Why → Type 0
LineFailsStrictly scope rows earlier line Typing = LineFails scope rows earlier line Typing
LineFailsStrictly scope rows earlier line Cut = IsTypedLine scope line × (is_cut_use line.rule ≡ true)
LineFailsStrictly scope rows earlier line why = (is_cut_use line.rule ≡ false) × LineFails scope rows earlier line why

-- The first strict failure of a refutation, with places as for the first failure.
pub data FirstStrictFailure (scope : Scope) (start : List Literal) (refutation : Refutation) : ℕ → Why → Type 0 where
  at_row :
      (front back : List Row) (r : Row) (why : Why)
      → refutation.witnesses ≡ front ++ r ∷ back
      → IsTable scope front
      → RowFails scope front r why
      → FirstStrictFailure scope start refutation (length front) why
  at_line :
      (front back : List Line) (line : Line) (why : Why)
      → IsTable scope refutation.witnesses
      → refutation.lines ≡ front ++ line ∷ back
      → AreRightLines scope refutation.witnesses front
      → HasNoCut front
      → LineFailsStrictly (with_rows scope refutation.witnesses) refutation.witnesses front line why
      → FirstStrictFailure scope start refutation (length refutation.witnesses + length front) why
  at_last :
      (front : List Line) (line : Line)
      → IsTable scope refutation.witnesses
      → refutation.lines ≡ front ++ line ∷ []
      → AreRightLines scope refutation.witnesses refutation.lines
      → HasNoCut refutation.lines
      → (Within line.branch start → ⊥)
      → FirstStrictFailure scope start refutation (length refutation.witnesses + length front) Last
  no_line :
      IsTable scope refutation.witnesses
      → refutation.lines ≡ []
      → FirstStrictFailure scope start refutation (length refutation.witnesses) Last

-- the text is accepted for the problem, and none of its lines is a cut
pub record IsStrictlyAcceptedFor (p : PlainProblem) (t : RefutationTree) : Type 0 where
  pub accepted : IsAcceptedFor p t
  pub no_cut : HasNoCut (numbered_refutation (names_of p.declared.bases p.declared.consts) t).lines

-- The refutation fails first strictly at this line of a text, of which its first row, or else its first line, or else the end line, is
-- line `first`.
pub record FailsStrictlyAt (scope : Scope) (start : List Literal) (refutation : Refutation) (first line : ℕ) (why : Why) : Type 0 where
  pub place : ℕ
  pub is_first : FirstStrictFailure scope start refutation place why
  pub line_is : line ≡ first + place

-- The first strict failure of a text, with lines as for its first failure.
pub data TextFailsStrictlyAt (p : PlainProblem) (t : RefutationTree) (first : ℕ) : ℕ → Why → Type 0 where
  at_definition :
      (place line : ℕ)
      → 0 < length t.names
      → DifferFirst t.names (taken_texts p) place
      → line + length t.names ≡ first + place
      → TextFailsStrictlyAt p t first line Defs
  behind_definitions :
      (line : ℕ) (why : Why)
      → NamesDefinitions p t.names
      → FailsStrictlyAt (scope_of p.declared) (start (refuted_problem p t.names))
      (numbered_refutation (names_of p.declared.bases p.declared.consts) t) first line why
      → TextFailsStrictlyAt p t first line why
