use Rattle.std.proofs.Common.{sym, ap, ◌∙◌, option_map}
use Rattle.stt_core.specs.View.{the_type}
use Rattle.stt_core.specs.ScopeView.{the_scope}
use Rattle.test_bank.proofs.RowLaws.{signature_scope, checked_typed}
use Rattle.test_bank.proofs.checked.imported.Goals as goal

pub import-requires : goal.import-requires
import-requires c =
    let b = c.args.bank.now in
    checked_typed b (the_scope c.sig.result.now c.new-none.result) c.args.nf.now (the_type c.in-Some.field-0)
    (signature_scope b c.sig.result.now c.new-none.result c.sig.ensures.bases c.sig.ensures.consts c.new-none.ensures c.requires)
    (sym c.in_ok-type_of_closed.ensures ∙ ap (option_map the_type) c.in-Some.is)
