use Rattle.std.proofs.Common.{ap, ◌∙◌, arith}
use Rattle.thf_include.proofs.NameSets.{has_name-more}
use Rattle.thf_include.proofs.selection.selected_names.Goals as goal

pub loop-selected-preserved : goal.loop-selected-preserved
loop-selected-preserved c = record {
  items = c.loop-selected.invariant.items;
  names = has_name-more (λ s. s.name) c.loop-selected.names c.insert.new.self c.as_slice.result c.as_slice-selected-items.result.now c.loop-selected.selected-index c.selected-item.result (omega arith) (c.as_slice.ensures ∙ ap (λ s. s.name) c.selected-item.is) c.in_ok-insert.ensures.updates c.loop-selected.invariant.names;
}
