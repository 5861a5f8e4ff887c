-- What is answered of a line, while terms come.
use Rattle.std.proofs.Common.{List, Option, subst, sym}
use Rattle.tableau_calculus.specs.Literals.{Literal, IsBranch}
use Rattle.tableau_calculus.specs.Accepted.{IsTypedUse, IsTypedLine}
use Rattle.tableau_calculus.specs.Checks.{FindsInstance}
use Rattle.tableau_calculus.specs.declared.refutation.Line.{Line}
use Rattle.refute_check.specs.declared.shared.Shared.{Shared}
use Rattle.refute_check.specs.declared.branch.LineBranch.{LineBranch}
use Rattle.refute_check.specs.Internal.Branches.{AreBranches}
use Rattle.refute_check.specs.Internal.Shared.{shared_scope, shared_atoms, the_rows, IsGoodShared, ExtendsShared}
use Rattle.refute_check.proofs.BranchLaws.{branches-grow}
use Rattle.refute_check.proofs.SharedLaws.{extends_on, extends_scope, extends_rows, extends_atoms}

module _ (first second third : Shared) (good : IsGoodShared first) (e : ExtendsShared first second) (f : ExtendsShared second third) (line : Line) where
  -- the line is none over what is declared
  pub no_use_typed : (IsTypedUse (shared_scope third) line.rule → ⊥) → IsTypedLine (shared_scope first) line → ⊥
  no_use_typed h typed = h (subst (λ s. IsTypedUse s line.rule) (sym (extends_scope first third (extends_on first second third e f))) typed.1)

  pub line_typed : IsBranch (shared_scope second) line.branch → IsTypedUse (shared_scope third) line.rule → IsTypedLine (shared_scope first) line
  line_typed h g = (
    subst (λ s. IsBranch s line.branch) (extends_scope first second e) h,
    subst (λ s. IsTypedUse s line.rule) (extends_scope first third (extends_on first second third e f)) g,
  )

  -- the instance over what is declared, and its rows
  pub finds_first : (o : Option (List (List Literal))) → FindsInstance (shared_scope third) (the_rows third) line.branch line.rule o → FindsInstance (shared_scope first) (the_rows first) line.branch line.rule o
  finds_first o h =
      subst (λ rs. FindsInstance (shared_scope first) rs line.branch line.rule o) (extends_rows first third (extends_on first second third e f) good)
      (subst (λ s. FindsInstance s (the_rows third) line.branch line.rule o) (extends_scope first third (extends_on first second third e f)) h)

-- the branches of earlier lines, and the numbers of a branch
pub branches_extended : (first second : Shared) → IsGoodShared first → ExtendsShared first second → (lines : List Line) (bs : List LineBranch) → AreBranches (shared_atoms first) lines bs → AreBranches (shared_atoms second) lines bs
branches_extended first second good e lines bs h = branches-grow (shared_atoms first) (shared_atoms second) lines bs (extends_atoms first second e good) h
