use Rattle.std.proofs.Common.{◌≡◌, ◌∙◌, ◌<◌, ◌∷◌, List, Some, sym, ap, subst, reverse, length}
use Rattle.std.proofs.lemmas.Option.{slice_get-get_or}
use Rattle.std.proofs.lemmas.List.Elements.{All-head}
use Rattle.tableau_rebuild.specs.declared.draft.Draft.TheVariants.{Clause}
use Rattle.tableau_rebuild.specs.declared.walk.Task.{Task}
use Rattle.tableau_rebuild.specs.declared.walk.Task.TheVariants.{Visit, Enter}
use Rattle.tableau_rebuild.specs.Internal.Drafts.{trees}
use Rattle.tableau_rebuild.specs.Internal.Walks.{task_number, IsWalkUnderWay, weight}
use Rattle.tableau_rebuild.proofs.WalkSteps.{visit_there, visit_clause, visit_close, visit_cut, reverse_push}
use Rattle.tableau_rebuild.proofs.walk.visit.Goals as goal

pub returns-else-not-listed-i-clause-way : goal.returns-else-not-listed-i-clause-way
returns-else-not-listed-i-clause-way c = (visit_there c.args.drafts.now c.requires.right c.args.last c.args.listed.now c.args.order.now (reverse c.args.tasks.now.items) c.args.i c.requires.last c.requires.way c.if-not-listed-i.false).way

pub returns-else-not-listed-i-clause-less : goal.returns-else-not-listed-i-clause-less
returns-else-not-listed-i-clause-less c = (visit_there c.args.drafts.now c.requires.right c.args.last c.args.listed.now c.args.order.now (reverse c.args.tasks.now.items) c.args.i c.requires.last c.requires.way c.if-not-listed-i.false).less

pub returns-in-Clause-clause-way : goal.returns-in-Clause-clause-way
returns-in-Clause-clause-way c =
    let drafts = c.args.drafts.now in
    let inside = All-head (λ t. task_number t < length drafts) (Visit c.args.i) (reverse c.args.tasks.now.items) c.requires.way.in_range in
    let at = slice_get-get_or drafts c.args.i (Clause 0) inside ∙ ap Some c.in-Clause.is in
    let leaves = visit_clause drafts c.requires.right c.args.last c.args.listed.now c.args.order.now (reverse c.args.tasks.now.items) c.args.i c.in-Clause.field-0 c.requires.way at in
    subst (IsWalkUnderWay drafts c.args.last c.args.listed.now c.args.order.now) (sym (reverse_push c.args.tasks.now.items c.push.new.self.items (Enter c.args.i) c.in_ok-push.ensures.items)) leaves.way

pub returns-in-Clause-clause-less : goal.returns-in-Clause-clause-less
returns-in-Clause-clause-less c =
    let drafts = c.args.drafts.now in
    let inside = All-head (λ t. task_number t < length drafts) (Visit c.args.i) (reverse c.args.tasks.now.items) c.requires.way.in_range in
    let at = slice_get-get_or drafts c.args.i (Clause 0) inside ∙ ap Some c.in-Clause.is in
    let leaves = visit_clause drafts c.requires.right c.args.last c.args.listed.now c.args.order.now (reverse c.args.tasks.now.items) c.args.i c.in-Clause.field-0 c.requires.way at in
    subst (λ k. weight (trees drafts) k < weight (trees drafts) (Visit c.args.i ∷ reverse c.args.tasks.now.items)) (sym (reverse_push c.args.tasks.now.items c.push.new.self.items (Enter c.args.i) c.in_ok-push.ensures.items)) leaves.less

pub returns-in-Close-clause-way : goal.returns-in-Close-clause-way
returns-in-Close-clause-way c =
    let drafts = c.args.drafts.now in
    let inside = All-head (λ t. task_number t < length drafts) (Visit c.args.i) (reverse c.args.tasks.now.items) c.requires.way.in_range in
    let at = slice_get-get_or drafts c.args.i (Clause 0) inside ∙ ap Some c.in-Close.is in
    let leaves = visit_close drafts c.requires.right c.args.last c.args.listed.now c.args.order.now (reverse c.args.tasks.now.items) c.args.i c.in-Close.field-0 c.in-Close.field-1 c.in-Close.field-2 c.requires.way at in
    subst (IsWalkUnderWay drafts c.args.last c.args.listed.now c.args.order.now) (sym (reverse_push c.args.tasks.now.items c.push.new.self.items (Enter c.args.i) c.in_ok-push.ensures.items)) leaves.way

pub returns-in-Close-clause-less : goal.returns-in-Close-clause-less
returns-in-Close-clause-less c =
    let drafts = c.args.drafts.now in
    let inside = All-head (λ t. task_number t < length drafts) (Visit c.args.i) (reverse c.args.tasks.now.items) c.requires.way.in_range in
    let at = slice_get-get_or drafts c.args.i (Clause 0) inside ∙ ap Some c.in-Close.is in
    let leaves = visit_close drafts c.requires.right c.args.last c.args.listed.now c.args.order.now (reverse c.args.tasks.now.items) c.args.i c.in-Close.field-0 c.in-Close.field-1 c.in-Close.field-2 c.requires.way at in
    subst (λ k. weight (trees drafts) k < weight (trees drafts) (Visit c.args.i ∷ reverse c.args.tasks.now.items)) (sym (reverse_push c.args.tasks.now.items c.push.new.self.items (Enter c.args.i) c.in_ok-push.ensures.items)) leaves.less

pushed : (xs a b d : List Task) (x y z : Task) → reverse a ≡ x ∷ reverse xs → reverse b ≡ y ∷ reverse a → reverse d ≡ z ∷ reverse b → reverse d ≡ z ∷ y ∷ x ∷ reverse xs
pushed xs a b d x y z e f g = g ∙ ap (λ k. z ∷ k) (f ∙ ap (λ k. y ∷ k) e)

pub returns-in_ok-push-in-Cut-2-clause-way : goal.returns-in_ok-push-in-Cut-2-clause-way
returns-in_ok-push-in-Cut-2-clause-way c =
    let drafts = c.args.drafts.now in
    let old = c.args.tasks.now.items in
    let inside = All-head (λ t. task_number t < length drafts) (Visit c.args.i) (reverse old) c.requires.way.in_range in
    let at = slice_get-get_or drafts c.args.i (Clause 0) inside ∙ ap Some c.in-Cut.is in
    let leaves = visit_cut drafts c.requires.right c.args.last c.args.listed.now c.args.order.now (reverse old) c.args.i c.in-Cut.field-0 c.in-Cut.field-1 c.in-Cut.on c.in-Cut.off c.requires.way at in
    let first = reverse_push old c.push.new.self.items (Enter c.args.i) c.in_ok-push.ensures.items in
    let second = reverse_push c.push.new.self.items c.push-in-Cut.new.self.items (Visit c.in-Cut.off) c.in_ok-push-in-Cut.ensures.items in
    let third = reverse_push c.push-in-Cut.new.self.items c.push-in-Cut-2.new.self.items (Visit c.in-Cut.on) c.in_ok-push-in-Cut-2.ensures.items in
    subst (IsWalkUnderWay drafts c.args.last c.args.listed.now c.args.order.now) (sym (pushed old c.push.new.self.items c.push-in-Cut.new.self.items c.push-in-Cut-2.new.self.items (Enter c.args.i) (Visit c.in-Cut.off) (Visit c.in-Cut.on) first second third)) leaves.way

pub returns-in_ok-push-in-Cut-2-clause-less : goal.returns-in_ok-push-in-Cut-2-clause-less
returns-in_ok-push-in-Cut-2-clause-less c =
    let drafts = c.args.drafts.now in
    let old = c.args.tasks.now.items in
    let inside = All-head (λ t. task_number t < length drafts) (Visit c.args.i) (reverse old) c.requires.way.in_range in
    let at = slice_get-get_or drafts c.args.i (Clause 0) inside ∙ ap Some c.in-Cut.is in
    let leaves = visit_cut drafts c.requires.right c.args.last c.args.listed.now c.args.order.now (reverse old) c.args.i c.in-Cut.field-0 c.in-Cut.field-1 c.in-Cut.on c.in-Cut.off c.requires.way at in
    let first = reverse_push old c.push.new.self.items (Enter c.args.i) c.in_ok-push.ensures.items in
    let second = reverse_push c.push.new.self.items c.push-in-Cut.new.self.items (Visit c.in-Cut.off) c.in_ok-push-in-Cut.ensures.items in
    let third = reverse_push c.push-in-Cut.new.self.items c.push-in-Cut-2.new.self.items (Visit c.in-Cut.on) c.in_ok-push-in-Cut-2.ensures.items in
    subst (λ k. weight (trees drafts) k < weight (trees drafts) (Visit c.args.i ∷ reverse old)) (sym (pushed old c.push.new.self.items c.push-in-Cut.new.self.items c.push-in-Cut-2.new.self.items (Enter c.args.i) (Visit c.in-Cut.off) (Visit c.in-Cut.on) first second third)) leaves.less
