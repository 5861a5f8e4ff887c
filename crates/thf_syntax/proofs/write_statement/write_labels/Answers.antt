use Rattle.std.proofs.Common.{codes}
use Rattle.thf_grammar.specs.View.{the_selected}
use Rattle.thf_syntax.specs.Texts.{selected_text}
use Rattle.thf_syntax.proofs.Lists.{separated-first}
use Rattle.outside.proofs.Writes.{on_err, stopped_first}
use Rattle.thf_names.proofs.Writes.{err_later}
use Rattle.thf_syntax.proofs.write_statement.write_labels.Goals as goal

pub returns-in_err-write_selected-in-len1-up-clause-stopped : goal.returns-in_err-write_selected-in-len1-up-clause-stopped
returns-in_err-write_selected-in-len1-up-clause-stopped g c = on_err c.from_residual.result
    (rw (separated-first (codes ",") selected_text the_selected c.args.only.now c.first-item.result c.in-len1-up.len_at_least c.first-item.is) (stopped_first _ _ c.in_err-write_selected-in-len1-up.ensures.stopped))

pub returns-in_ok-write_selected-in-len1-up-clause-stopped : goal.returns-in_ok-write_selected-in-len1-up-clause-stopped
returns-in_ok-write_selected-in-len1-up-clause-stopped g c = rw (separated-first (codes ",") selected_text the_selected c.args.only.now c.first-item.result c.in-len1-up.len_at_least c.first-item.is)
    (err_later c.write_further_labels.new.sink c.write_further_labels.result _ _ c.in_ok-write_selected-in-len1-up.ensures.took c.write_further_labels.ensures.stopped)
