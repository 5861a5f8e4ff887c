-- What the check of a row and of a line answers.
use Rattle.std.specs.Prelude.{List, Option, Some, None}
use Rattle.stt_core.specs.Typing.{Scope}
use Rattle.tableau_calculus.specs.Witnesses.{Row, IsTypedRow, IsTwice}
use Rattle.tableau_calculus.specs.Accepted.{IsRightLine, RowFails, LineFails}
use Rattle.tableau_calculus.specs.declared.refutation.Line.{Line}
use Rattle.tableau_calculus.specs.declared.refutation.Why.{Why}

-- that the row is right, or why it fails
abbrev pub RowAnswer : Scope → List Row → Row → Option Why → Type 0
RowAnswer scope earlier r None = IsTypedRow scope earlier r × (IsTwice earlier r → ⊥)
RowAnswer scope earlier r (Some why) = RowFails scope earlier r why

-- that the line is right, or why it fails
abbrev pub LineAnswer : Scope → List Row → List Line → Line → Option Why → Type 0
LineAnswer scope rows earlier line None = IsRightLine scope rows earlier line
LineAnswer scope rows earlier line (Some why) = LineFails scope rows earlier line why
