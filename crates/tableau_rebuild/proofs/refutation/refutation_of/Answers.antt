use Rattle.std.proofs.Common.{length, map, slice_get, sym, ap, ◌∙◌}
use Rattle.tableau_rebuild.specs.Internal.Drafts.{tree_at, trees}
use Rattle.tableau_rebuild.proofs.LastLaws.{listed_makeable, listed_over, all_lines}
use Rattle.tableau_rebuild.proofs.refutation.refutation_of.Goals as goal

pub write_lines-requires-clause-makeable : goal.write_lines-requires-clause-makeable
write_lines-requires-clause-makeable c = λ k i d listed drafted.
    listed_makeable c.args.bank.now c.args.atoms.now c.args.steps.now c.args.drafts.now c.requires.right c.args.last c.in_ok-order.order.items c.in_ok-order.ensures.walked c.requires.founded c.deref-3.result.now (ap length c.deref-3.ensures.value ∙ c.in_ok-numbers.ensures.count) k i d
    (ap (λ xs. slice_get xs k) (sym c.deref-2.ensures.value) ∙ listed) drafted

pub write_lines-requires-clause-numbered : goal.write_lines-requires-clause-numbered
write_lines-requires-clause-numbered c = λ k i listed.
    listed_over c.args.bank.now c.args.atoms.now c.args.steps.now c.args.drafts.now c.requires.right c.args.last c.in_ok-order.order.items c.in_ok-order.ensures.walked c.requires.founded k i (ap (λ xs. slice_get xs k) (sym c.deref-2.ensures.value) ∙ listed)

pub returns-clause-in_range : goal.returns-clause-in_range
returns-clause-in_range c = record { rows = c.in_ok-rows.ensures.few; lines = c.in_ok-written.ensures.count; each = c.in_ok-written.ensures.in_range }

pub returns-clause-lines : goal.returns-clause-lines
returns-clause-lines c =
    let ds = c.args.drafts.now in
    c.in_ok-written.ensures.lines
    ∙ all_lines c.args.bank.now c.args.atoms.now c.args.steps.now ds c.requires.right c.args.last c.deref-2.result.now (ap (map (tree_at (trees ds))) c.deref-2.ensures.value ∙ c.in_ok-order.ensures.walked)
