use Rattle.std.proofs.Common.{◌∙◌, sym, subst, reverse, length, ◌<◌, arith, false, true, slice_set}
use Rattle.std.proofs.lemmas.List.Elements.{All-head}
use Rattle.tableau_rebuild.specs.Internal.Walks.{task_number, IsWalkUnderWay}
use Rattle.tableau_rebuild.specs.declared.walk.Task.TheVariants.{Enter}
use Rattle.tableau_rebuild.proofs.WalkSteps.{any_default, enter_there, enter_new}
use Rattle.tableau_rebuild.proofs.walk.enter.Goals as goal

pub returns-in_ok-push : goal.returns-in_ok-push
returns-in_ok-push c =
    let drafts = c.args.drafts.now in
    let inside = All-head (λ t. task_number t < length drafts) (Enter c.args.i) (reverse c.args.tasks.now) c.requires.way.in_range in
    let flags = c.requires.way.flags in
    let is = any_default c.args.listed.now.items c.args.i false c.index.result.now (omega (arith, inside, flags)) ∙ sym c.index.ensures ∙ c.if-not-index.true in
    let new = enter_new drafts c.requires.right c.args.last c.args.listed.now.items c.args.order.now.items (reverse c.args.tasks.now) c.args.i c.requires.way is in
    subst (λ o. IsWalkUnderWay drafts c.args.last (slice_set c.args.listed.now.items c.args.i true) o (reverse c.args.tasks.now)) (sym c.in_ok-push.ensures.items) new

pub returns-else-not-index : goal.returns-else-not-index
returns-else-not-index c =
    let drafts = c.args.drafts.now in
    let inside = All-head (λ t. task_number t < length drafts) (Enter c.args.i) (reverse c.args.tasks.now) c.requires.way.in_range in
    let flags = c.requires.way.flags in
    let is = any_default c.args.listed.now.items c.args.i false c.index.result.now (omega (arith, inside, flags)) ∙ sym c.index.ensures ∙ c.if-not-index.false in
    enter_there drafts c.requires.right c.args.last c.args.listed.now.items c.args.order.now.items (reverse c.args.tasks.now) c.args.i c.requires.way is
