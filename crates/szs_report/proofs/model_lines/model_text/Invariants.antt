use Rattle.std.proofs.Common.{◌≡◌, [], take}
use Rattle.stt_core.specs.ScopeView.{the_scope}
use Rattle.finite_models.specs.Symbols.{symbols_with}
use Rattle.refute_print.specs.Named.{names_of}
use Rattle.szs_report.specs.ModelText.{model_text}
use Rattle.szs_report.proofs.model_lines.model_text.Given as goal

abbrev pub invariant-loop-i : goal.invariant-loop-i
invariant-loop-i l =
    l.sink.bytes ≡ model_text (names_of l.sig.bases l.sig.consts) (take l.i (symbols_with (the_scope l.sig []) l.choosers)) l.values
