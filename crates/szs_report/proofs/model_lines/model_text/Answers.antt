use Rattle.std.proofs.Common.{[]}
use Rattle.stt_core.specs.ScopeView.{the_scope}
use Rattle.finite_models.specs.Symbols.{symbols_with}
use Rattle.refute_print.specs.Named.{names_of}
use Rattle.szs_report.proofs.ModelLaws.{next_line}
use Rattle.szs_report.proofs.model_lines.model_text.Goals as goal

pub loop-i-preserved : goal.loop-i-preserved
loop-i-preserved c =
    next_line (names_of c.args.sig.now.bases c.args.sig.now.consts) (symbols_with (the_scope c.args.sig.now []) c.args.choosers.now) c.args.values.now c.loop-i.i c.at.result
    c.loop-i.sink.bytes c.put_line.new.sink.bytes c.requires c.at.ensures c.loop-i.invariant c.in_ok-put_line.ensures
