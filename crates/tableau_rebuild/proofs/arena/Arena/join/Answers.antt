use Rattle.std.proofs.Common.{refl, ap, subst}
use Rattle.tableau_rebuild.specs.declared.draft.Draft.TheVariants.{Close, Cut}
use Rattle.tableau_rebuild.specs.declared.arena.Standing.TheVariants.{Line}
use Rattle.tableau_rebuild.specs.Internal.Arenas.{IsStandingWithin}
use Rattle.tableau_rebuild.proofs.JoinLaws.{closed_in_order, closed_turned, cut_joined, step_drawn, step_before, close_children, cut_children}
use Rattle.tableau_rebuild.proofs.arena.Arena.join.Goals as goal

pub returns-in_ok-close-in-Start-Start-clause-drawn : goal.returns-in_ok-close-in-Start-Start-clause-drawn
returns-in_ok-close-in-Start-Start-clause-drawn c =
    let t = c.args.steps.now in
    let old = c.args.self.now in
    let made = c.in_ok-close-in-Start-Start.ensures.drafts in
    step_drawn t old.drafts.items c.close.new.self.drafts.items c.args.at c.close.new.self.of_clause.items old.of_clause.items (Close c.args.at made.0 made.1) c.requires.drawn c.in_ok-close-in-Start-Start.ensures.of_clause made.2 refl c.requires.before
    (close_children t old.drafts.items c.close.new.self.drafts.items c.args.at made.0 made.1)

pub returns-in_ok-close-in-Start-Start-clause-before : goal.returns-in_ok-close-in-Start-Start-clause-before
returns-in_ok-close-in-Start-Start-clause-before c =
    let made = c.in_ok-close-in-Start-Start.ensures.drafts in
    step_before c.args.steps.now c.args.self.now.drafts.items c.close.new.self.drafts.items c.args.at (Close c.args.at made.0 made.1) made.2 refl c.requires.before

pub returns-in_ok-close-in-Start-Start-clause-joined : goal.returns-in_ok-close-in-Start-Start-clause-joined
returns-in_ok-close-in-Start-Start-clause-joined c =
    let made = c.in_ok-close-in-Start-Start.ensures.drafts in
    closed_in_order c.args.steps.now c.args.self.now.drafts.items c.close.new.self.drafts.items c.args.at c.args.var c.in-Start-Start.m c.in-Start-Start.n made.0 made.1 c.in_ok-close-in-Start-Start.field-0 c.args.positive c.args.negative c.in-Start-Start.is-0 c.in-Start-Start.is-1 c.if-m-n.true made.2 c.in_ok-close-in-Start-Start.ensures.last made.3

pub returns-in_ok-close-in-Start-Start-2-clause-drawn : goal.returns-in_ok-close-in-Start-Start-2-clause-drawn
returns-in_ok-close-in-Start-Start-2-clause-drawn c =
    let t = c.args.steps.now in
    let old = c.args.self.now in
    let new = c.close-else-m-n.new.self in
    let made = c.in_ok-close-in-Start-Start-2.ensures.drafts in
    step_drawn t old.drafts.items new.drafts.items c.args.at new.of_clause.items old.of_clause.items (Close c.args.at made.0 made.1) c.requires.drawn c.in_ok-close-in-Start-Start-2.ensures.of_clause made.2 refl c.requires.before
    (close_children t old.drafts.items new.drafts.items c.args.at made.0 made.1)

pub returns-in_ok-close-in-Start-Start-2-clause-before : goal.returns-in_ok-close-in-Start-Start-2-clause-before
returns-in_ok-close-in-Start-Start-2-clause-before c =
    let made = c.in_ok-close-in-Start-Start-2.ensures.drafts in
    step_before c.args.steps.now c.args.self.now.drafts.items c.close-else-m-n.new.self.drafts.items c.args.at (Close c.args.at made.0 made.1) made.2 refl c.requires.before

pub returns-in_ok-close-in-Start-Start-2-clause-joined : goal.returns-in_ok-close-in-Start-Start-2-clause-joined
returns-in_ok-close-in-Start-Start-2-clause-joined c =
    let made = c.in_ok-close-in-Start-Start-2.ensures.drafts in
    closed_turned c.args.steps.now c.args.self.now.drafts.items c.close-else-m-n.new.self.drafts.items c.args.at c.args.var c.in-Start-Start.m c.in-Start-Start.n made.0 made.1 c.in_ok-close-in-Start-Start-2.field-0 c.args.positive c.args.negative c.in-Start-Start.is-0 c.in-Start-Start.is-1 c.if-m-n.false made.2 c.in_ok-close-in-Start-Start-2.ensures.last made.3

pub returns-in_ok-number-in-Line-Line-clause-drawn : goal.returns-in_ok-number-in-Line-Line-clause-drawn
returns-in_ok-number-in-Line-Line-clause-drawn c =
    let t = c.args.steps.now in
    let old = c.args.self.now in
    let new = c.push.new.self in
    let on = c.in-Line-Line.on in
    let off = c.in-Line-Line.off in
    let below = subst (IsStandingWithin t old.drafts.items) c.in-Line-Line.is-0 c.requires.positive in
    let above = subst (IsStandingWithin t old.drafts.items) c.in-Line-Line.is-1 c.requires.negative in
    step_drawn t old.drafts.items new.drafts.items c.args.at new.of_clause.items old.of_clause.items (Cut c.args.at c.args.var on off) c.requires.drawn c.in_ok-number-in-Line-Line.ensures.of_clause c.in_ok-number-in-Line-Line.ensures.drafts refl c.requires.before
    (cut_children t old.drafts.items new.drafts.items c.args.at c.args.var on off above below)

pub returns-in_ok-number-in-Line-Line-clause-before : goal.returns-in_ok-number-in-Line-Line-clause-before
returns-in_ok-number-in-Line-Line-clause-before c =
    step_before c.args.steps.now c.args.self.now.drafts.items c.push.new.self.drafts.items c.args.at (Cut c.args.at c.args.var c.in-Line-Line.on c.in-Line-Line.off) c.in_ok-number-in-Line-Line.ensures.drafts refl c.requires.before

pub returns-in_ok-number-in-Line-Line-clause-joined : goal.returns-in_ok-number-in-Line-Line-clause-joined
returns-in_ok-number-in-Line-Line-clause-joined c =
    let t = c.args.steps.now in
    let old = c.args.self.now.drafts.items in
    let below = subst (IsStandingWithin t old) c.in-Line-Line.is-0 c.requires.positive in
    let above = subst (IsStandingWithin t old) c.in-Line-Line.is-1 c.requires.negative in
    cut_joined t old c.push.new.self.drafts.items c.args.at c.args.var c.in-Line-Line.off c.in-Line-Line.on (Line c.in_ok-number-in-Line-Line.number) c.args.positive c.args.negative c.in-Line-Line.is-0 c.in-Line-Line.is-1 below above c.in_ok-number-in-Line-Line.ensures.drafts (ap Line c.in_ok-number-in-Line-Line.ensures.last)
