use Rattle.std.proofs.Common.{[], refl}
use Rattle.stt_core.specs.ScopeView.{the_scope}
use Rattle.tableau_calculus.specs.Witnesses.{with_rows}
use Rattle.tableau_calculus.proofs.RuleLaws.{rule_keeps}
use Rattle.tableau_calculus.proofs.law.rules_keep_models.Goals as goal

pub returns : goal.returns
returns c = λ m h rule principals alternatives.
    let rows = c.args.rows.now in
    rule_keeps (with_rows (the_scope c.args.sig.now []) rows) m h.model rows refl h.along rule principals alternatives
