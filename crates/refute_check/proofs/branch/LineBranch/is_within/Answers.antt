use Rattle.std.proofs.Common.{◌∙◌, nat_eq, ◌||◌, sym, ap}
use Rattle.std.specs.List.{list_all}
use Rattle.indexmap.specs.IndexSet.{contains}
use Rattle.tableau_calculus.proofs.ListLaws.{untrue}
use Rattle.refute_check.proofs.SetLaws.{within_sides, positive_within, negative_within}
use Rattle.refute_check.proofs.branch.LineBranch.is_within.Goals as goal

pub returns-then-is_among : goal.returns-then-is_among
returns-then-is_among c =
    let b = c.args.self.now in
    let left = c.args.left.now in
    let right = c.args.right.now in
    let first = c.is_among.ensures ∙ ap (list_all (λ k. contains nat_eq left.positive k || contains nat_eq right.positive k)) c.deref.ensures.value in
    let second = c.is_among-then-is_among.ensures ∙ ap (list_all (λ k. contains nat_eq left.negative k || contains nat_eq right.negative k)) c.deref-then-is_among.ensures.value in
    (λ h. within_sides b left right (sym first ∙ c.if-is_among.true) (sym second ∙ h), λ h. second ∙ negative_within b left right h)

pub returns-else-is_among : goal.returns-else-is_among
returns-else-is_among c =
    let b = c.args.self.now in
    let left = c.args.left.now in
    let right = c.args.right.now in
    let first = c.is_among.ensures ∙ ap (list_all (λ k. contains nat_eq left.positive k || contains nat_eq right.positive k)) c.deref.ensures.value in
    (λ h. absurd (untrue h c.if-is_among.false), λ h. first ∙ positive_within b left right h)
