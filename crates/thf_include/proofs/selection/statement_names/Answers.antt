use Rattle.std.proofs.Common.{ap, ◌∙◌, arith}
use Rattle.thf_include.proofs.NameSets.{has_name-more}
use Rattle.thf_include.proofs.selection.statement_names.Goals as goal

pub loop-placed-preserved : goal.loop-placed-preserved
loop-placed-preserved c = record {
  items = c.loop-placed.invariant.items;
  names = has_name-more (λ p. p.statement.name) c.loop-placed.names c.insert.new.self c.as_slice.result c.as_slice-placed-items.result.now c.loop-placed.placed-index c.placed-item.result (omega arith) (c.as_slice.ensures ∙ ap (λ p. p.statement.name) c.placed-item.is) c.in_ok-insert.ensures.updates c.loop-placed.invariant.names;
}
