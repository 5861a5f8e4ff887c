use Rattle.std.proofs.Common.{[], sym, ◌∙◌, arith}
use Rattle.std.proofs.lemmas.List.{length-map}
use Rattle.stt_core.specs.ScopeView.{the_scope}
use Rattle.finite_models.specs.ChooserView.{the_chooser}
use Rattle.finite_models.proofs.LookLaws.{behind_place}
use Rattle.std.proofs.lemmas.Result.{on_ok_weaker}
use Rattle.szs_report.proofs.ModelLaws.{declared_put, chooser_put}
use Rattle.szs_report.proofs.model_lines.put_symbol.Goals as goal

pub at-requires : goal.at-requires
at-requires c =
    behind_place (the_scope c.args.sig.now []) c.args.choosers.now c.args.i c.len-declared.result (c.len-declared.ensures ∙ sym (length-map c.args.sig.now.consts (λ x. x.type))) (omega arith) c.requires

pub returns-then-i-declared : goal.returns-then-i-declared
returns-then-i-declared c =
    on_ok_weaker c.put_name.result
    (λ e. declared_put c.args.sig.now.bases c.args.sig.now.consts c.args.choosers.now c.args.i c.name_at.result.now c.args.sink.now.bytes c.put_name.new.sink.bytes c.name_at.ensures e) c.put_name.ensures

pub returns-else-i-declared : goal.returns-else-i-declared
returns-else-i-declared c =
    on_ok_weaker c.put_chooser.result
    (λ e. chooser_put c.args.sig.now.bases c.args.sig.now.consts c.args.choosers.now c.args.i c.len-declared.result (the_chooser c.at.result.now) c.args.sink.now.bytes c.put_chooser.new.sink.bytes c.len-declared.ensures (omega arith) c.at.ensures e)
    c.put_chooser.ensures
