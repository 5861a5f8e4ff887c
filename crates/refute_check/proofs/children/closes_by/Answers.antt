use Rattle.std.proofs.Common.{◌≡◌, ◌∙◌, ◌++◌, false, Some, option_copied, IsTrue, ap, sym, subst}
use Rattle.tableau_calculus.specs.Accepted.{Within, ClosesBy}
use Rattle.refute_check.specs.Internal.Branches.{branch_has, line_has}
use Rattle.refute_check.proofs.SetLaws.{or_swap}
use Rattle.refute_check.proofs.ChildLaws.{line_at, no_line_at, within-numbers, numbers-within}
use Rattle.refute_check.proofs.children.closes_by.Goals as goal

pub returns-in-Some : goal.returns-in-Some
returns-in-Some c = λ terms lines alternative branch are own known closed.
    let b = c.in-Some.branch.now in
    let j = c.in-Line.j in
    let l = line_at terms lines c.args.earlier.now j b are (sym c.branch_at.ensures ∙ ap option_copied c.in-Some.is) in
    subst (λ child. (IsTrue c.is_within.result → ClosesBy lines (alternative ++ branch) child) × (ClosesBy lines (alternative ++ branch) child → IsTrue c.is_within.result)) (sym c.in-Line.is) (
      λ h. (l.line, l.at, numbers-within terms alternative branch c.args.known.now c.args.own.now known own l.line.branch (line_has b) l.numbered l.represents (λ sign k e. or_swap (branch_has c.args.own.now sign k) (branch_has c.args.known.now sign k) (c.is_within.ensures.0 h sign k e))),
      λ w.
          let e : Some w.0 ≡ Some l.line = sym w.1 ∙ l.at in
          let same : w.0 ≡ l.line = cc in
          let numbers = within-numbers terms alternative branch c.args.known.now c.args.own.now known own l.line.branch (line_has b) l.represents (subst (λ x. Within x.branch (alternative ++ branch)) same w.2) in
          c.is_within.ensures.1 (λ sign k e. or_swap (branch_has c.args.known.now sign k) (branch_has c.args.own.now sign k) (numbers sign k e)),
    )

pub returns-in-None : goal.returns-in-None
returns-in-None c = λ terms lines alternative branch are own known closed.
    let j = c.in-Line.j in
    subst (λ child. (IsTrue false → ClosesBy lines (alternative ++ branch) child) × (ClosesBy lines (alternative ++ branch) child → IsTrue false)) (sym c.in-Line.is) (
      λ h. cc,
      λ w. absurd (no_line_at terms lines c.args.earlier.now j w.0 are (sym c.branch_at.ensures ∙ ap option_copied c.in-None.is) w.1),
    )
