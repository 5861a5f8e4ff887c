use Rattle.std.proofs.Common.{refl, ◌++◌}
use Rattle.tableau_calculus.proofs.ListLaws.{untrue, within-itself, within-before, within-behind, closed-within}
use Rattle.refute_check.proofs.ChildLaws.{clash-closed, itself-closed, closed-cases, clashes_closed}
use Rattle.refute_check.proofs.children.is_closed_with.Goals as goal

pub returns-then-own_is_closed : goal.returns-then-own_is_closed
returns-then-own_is_closed c = λ terms front branch n o m a closed.
    (λ h. closed-within branch (front ++ branch) (closed.0 c.if-own_is_closed.true) (within-behind front branch branch (within-itself branch)), λ h. refl)

pub returns-then-clashes : goal.returns-then-clashes
returns-then-clashes c = λ terms front branch n o m a closed.
    (λ h. let k = c.clashes.ensures.0 c.if-clashes.true in clash-closed terms front branch c.args.known.now c.args.own.now a o k.1 k.0 k.2 k.3, λ h. refl)

pub returns : goal.returns
returns c = λ terms front branch n o m a closed.
    let itself = clashes_closed terms front c.args.known.now c.clashes-2.result m a c.clashes-2.ensures in (
      λ h. closed-within front (front ++ branch) (itself.0 h) (within-before front branch),
      λ h. closed-cases terms front branch c.args.known.now c.args.own.now n a o h
          (λ sign k e g. absurd (untrue (closed.1 (itself-closed terms branch c.args.own.now o sign k e g)) c.if-own_is_closed.false))
          (λ sign k e g. absurd (untrue (c.clashes.ensures.1 (k, sign, e, g)) c.if-clashes.false))
          itself.1,
    )
