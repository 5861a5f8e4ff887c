-- When a refutation is accepted, and where it first fails.
use Rattle.std.specs.Prelude.{◌≡◌, ℕ, ◌+◌, List, [], ◌∷◌, ◌++◌, length, Some, slice_get, Contains}
use Rattle.stt_core.specs.SimpleType.{SimpleType, predicate}
use Rattle.stt_core.specs.Typing.{Scope}
use Rattle.stt_core.specs.Canonical.{IsCanonical}
use Rattle.tableau_calculus.specs.Literals.{Literal, opposite, IsLiteral, IsBranch}
use Rattle.tableau_calculus.specs.Witnesses.{Row, with_rows, IsTypedRow, IsTwice, IsTable}
use Rattle.tableau_calculus.specs.Rules.{PlainRule, IsInstance}
use Rattle.tableau_calculus.specs.declared.rule_use.RuleUse.TheVariants.{AllPos, WithPredicate, Cut}
use Rattle.tableau_calculus.specs.declared.refutation.Child.{Child}
use Rattle.tableau_calculus.specs.declared.refutation.Child.TheVariants as child
use Rattle.tableau_calculus.specs.declared.refutation.Line.{Line}
use Rattle.tableau_calculus.specs.declared.refutation.Refutation.{Refutation}
use Rattle.tableau_calculus.specs.declared.refutation.Why.{Why}
use Rattle.tableau_calculus.specs.declared.refutation.Why.TheVariants.{Typing, Twice, Principal, Child as ChildWrong, Last}

-- each literal of the first list is one of the second
abbrev pub Within : List Literal → List Literal → Type 0
Within [] branch = Unit {0}
Within (l ∷ ls) branch = Contains branch l × Within ls branch

-- the branch holds a literal and its negation
pub record IsClosedBranch (branch : List Literal) : Type 0 where
  pub literal : Literal
  pub holds : Contains branch literal
  pub holds_opposite : Contains branch (opposite literal)

-- what a rule takes beside its principals is closed and canonical, and has the type that is wanted
abbrev pub IsTypedUse : Scope → PlainRule → Type 0
IsTypedUse scope (AllPos i u) = (a : SimpleType) × IsCanonical scope [] a u
IsTypedUse scope (WithPredicate kind f) = (a : SimpleType) × IsCanonical scope [] (predicate a) f
IsTypedUse scope (Cut l) = IsLiteral scope l
IsTypedUse scope rule = Unit {0}

abbrev pub IsTypedLine : Scope → Line → Type 0
IsTypedLine scope line = IsBranch scope line.branch × IsTypedUse scope line.rule

-- the child closes the branch with the alternative
abbrev pub ClosesBy : List Line → List Literal → Child → Type 0
ClosesBy earlier branch child.Closed = IsClosedBranch branch
ClosesBy earlier branch (child.Line j) = (line : Line) × (slice_get earlier j ≡ Some line) × Within line.branch branch

-- there is a child for each alternative, and it closes the branch with that
abbrev pub AreChildren : List Line → List Literal → List (List Literal) → List Child → Type 0
AreChildren earlier branch [] [] = Unit {0}
AreChildren earlier branch [] (c ∷ cs) = ⊥
AreChildren earlier branch (a ∷ as') [] = ⊥
AreChildren earlier branch (a ∷ as') (c ∷ cs) = ClosesBy earlier (a ++ branch) c × AreChildren earlier branch as' cs

pub record IsRightLine (scope : Scope) (rows : List Row) (earlier : List Line) (line : Line) : Type 0 where
  pub typed : IsTypedLine scope line
  pub alternatives : List (List Literal)
  pub instance : IsInstance scope rows line.branch line.rule alternatives
  pub children : AreChildren earlier line.branch alternatives line.children

-- the lines are right behind the earlier ones
abbrev pub AreRightAfter : Scope → List Row → List Line → List Line → Type 0
AreRightAfter scope rows earlier [] = Unit {0}
AreRightAfter scope rows earlier (line ∷ lines) =
    IsRightLine scope rows earlier line × AreRightAfter scope rows (earlier ++ line ∷ []) lines

-- the lines are right, over what is declared and the witnesses of these rows
abbrev pub AreRightLines : Scope → List Row → List Line → Type 0
AreRightLines scope rows lines = AreRightAfter (with_rows scope rows) rows [] lines

-- the last line's branch is within the start
pub record EndsWithin (start : List Literal) (lines : List Line) : Type 0 where
  pub front : List Line
  pub last : Line
  pub are : lines ≡ front ++ last ∷ []
  pub within : Within last.branch start

-- The refutation is accepted for the start: its rows are a witness table, its lines are right, and the last one's branch is within the
-- start.
pub record IsAccepted (scope : Scope) (start : List Literal) (refutation : Refutation) : Type 0 where
  pub table : IsTable scope refutation.witnesses
  pub lines : AreRightLines scope refutation.witnesses refutation.lines
  pub last : EndsWithin start refutation.lines

-- why a row fails, of its causes the first
abbrev pub RowFails : Scope → List Row → Row → Why → Type 0
RowFails scope earlier r Typing = IsTypedRow scope earlier r → ⊥
RowFails scope earlier r Twice = IsTypedRow scope earlier r × IsTwice earlier r
RowFails scope earlier r why = ⊥

-- why a line fails, of its causes the first
abbrev pub LineFails : Scope → List Row → List Line → Line → Why → Type 0
LineFails scope rows earlier line Typing = IsTypedLine scope line → ⊥
LineFails scope rows earlier line Principal =
    IsTypedLine scope line × ((alternatives : List (List Literal)) → IsInstance scope rows line.branch line.rule alternatives → ⊥)
LineFails scope rows earlier line ChildWrong =
    IsTypedLine scope line
    × ((alternatives : List (List Literal))
    × IsInstance scope rows line.branch line.rule alternatives
    × (AreChildren earlier line.branch alternatives line.children → ⊥))
LineFails scope rows earlier line why = ⊥

-- The first failure of a refutation. Places count the rows from 0 and then the lines, and the place behind them all stands for a line
-- that isn't there.
pub data FirstFailure (scope : Scope) (start : List Literal) (refutation : Refutation) : ℕ → Why → Type 0 where
  at_row :
      (front back : List Row) (r : Row) (why : Why)
      → refutation.witnesses ≡ front ++ r ∷ back
      → IsTable scope front
      → RowFails scope front r why
      → FirstFailure scope start refutation (length front) why
  at_line :
      (front back : List Line) (line : Line) (why : Why)
      → IsTable scope refutation.witnesses
      → refutation.lines ≡ front ++ line ∷ back
      → AreRightLines scope refutation.witnesses front
      → LineFails (with_rows scope refutation.witnesses) refutation.witnesses front line why
      → FirstFailure scope start refutation (length refutation.witnesses + length front) why
  at_last :
      (front : List Line) (line : Line)
      → IsTable scope refutation.witnesses
      → refutation.lines ≡ front ++ line ∷ []
      → AreRightLines scope refutation.witnesses refutation.lines
      → (Within line.branch start → ⊥)
      → FirstFailure scope start refutation (length refutation.witnesses + length front) Last
  no_line :
      IsTable scope refutation.witnesses → refutation.lines ≡ [] → FirstFailure scope start refutation (length refutation.witnesses) Last
