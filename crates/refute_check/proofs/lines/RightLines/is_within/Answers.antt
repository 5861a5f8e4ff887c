use Rattle.std.proofs.Common.{◌≡◌, ◌∙◌, ◌++◌, Some, slice_get, option_copied, ap, sym, subst}
use Rattle.tableau_calculus.specs.Accepted.{Within}
use Rattle.tableau_calculus.proofs.ListLaws.{within-trans, within-itself, within-behind, within-both}
use Rattle.refute_check.specs.Internal.Branches.{line_has}
use Rattle.refute_check.proofs.ChildLaws.{line_at, no_line_at, within-numbers, numbers-within}
use Rattle.refute_check.proofs.lines.RightLines.is_within.Goals as goal

pub returns-in-Some : goal.returns-in-Some
returns-in-Some c = λ terms lines line ls are at r.
    let branches = c.args.self.now.branches.items in
    let b = c.in-Some.branch.now in
    let s = c.args.start.now in
    let found = ap (λ bs. slice_get bs c.args.i) (sym c.as_slice.ensures.value) ∙ sym c.branch_at.ensures ∙ ap option_copied c.in-Some.is in
    let l = line_at terms lines branches c.args.i b are found in
    let e : Some l.line ≡ Some line = sym l.at ∙ at in
    let same : l.line ≡ line = cc in (
      λ h. subst (λ x. Within x.branch ls) same
          (within-trans l.line.branch (ls ++ ls) ls (numbers-within terms ls ls s s r r l.line.branch (line_has b) l.numbered l.represents (c.is_within.ensures.0 h)) (within-both ls ls ls (within-itself ls) (within-itself ls))),
      λ w. c.is_within.ensures.1 (within-numbers terms ls ls s s r r l.line.branch (line_has b) l.represents (within-behind ls l.line.branch ls (subst (λ x. Within x.branch ls) (sym same) w))),
    )

pub returns-in-None : goal.returns-in-None
returns-in-None c = λ terms lines line ls are at r.
    absurd (no_line_at terms lines c.args.self.now.branches.items c.args.i line are (ap (λ bs. slice_get bs c.args.i) (sym c.as_slice.ensures.value) ∙ sym c.branch_at.ensures ∙ ap option_copied c.in-None.is) at)
