use Rattle.std.proofs.Common.{codes, ◌++◌}
use Rattle.thf_grammar.specs.View.{the_selected}
use Rattle.thf_syntax.specs.Texts.{selected_text}
use Rattle.thf_names.proofs.Lists.{flat_map-map_map}
use Rattle.outside.proofs.Writes.{on_err}
use Rattle.thf_names.proofs.Writes.{stopped_at, took_all}
use Rattle.thf_syntax.proofs.write_statement.write_further_labels.Goals as goal

pub returns-in_err-write_selected-clause-stopped : goal.returns-in_err-write_selected-clause-stopped
returns-in_err-write_selected-clause-stopped g c = on_err c.from_residual.result
    (rw (flat_map-map_map (λ t. codes "," ++ t) selected_text the_selected c.args.only.now)
    (stopped_at (λ x. codes "," ++ selected_text (the_selected x)) c.args.only.now c.loop-selected.selected-index c.selected-item.result c.selected-item.result c.loop-selected-test.true c.selected-item.is c.loop-selected.invariant c.in_err-write_selected.ensures.stopped))

pub returns-clause-took : goal.returns-clause-took
returns-clause-took g c = rw (flat_map-map_map (λ t. codes "," ++ t) selected_text the_selected c.args.only.now) (took_all (λ x. codes "," ++ selected_text (the_selected x)) c.args.only.now c.loop-selected.selected-index c.loop-selected-test.false c.loop-selected.invariant)
