use Rattle.std.proofs.Common.{ap}
use Rattle.term_bank.specs.Terms.{term_at}
use Rattle.witness_names.specs.Rows.{binder_of}
use Rattle.prover_state.specs.declared.tables.Tables.{Tables}
use Rattle.prover_search.proofs.RuleUses.{describe-fits}
use Rattle.prover_search.proofs.AdvanceLaws.{advances-ruled}
use Rattle.prover_search.proofs.instances.describe.Goals as goal

pub apply_rule-requires-clause-fits : goal.apply_rule-requires-clause-fits
apply_rule-requires-clause-fits g c =
    let basis = c.args.core.now.tables.basis in
    (_, describe-fits basis c.requires.ready.right.basis c.args.id (binder_of (term_at basis.bank.terms c.args.id)) c.requires.typed)

pub returns-clause-state : goal.returns-clause-state
returns-clause-state g c =
    let basis = c.args.core.now.tables.basis in
    c.in_ok-apply_rule.ensures.state _ (describe-fits basis c.requires.ready.right.basis c.args.id (binder_of (term_at basis.bank.terms c.args.id)) c.requires.typed)

pub returns-clause-advances : goal.returns-clause-advances
returns-clause-advances g c =
    advances-ruled c.args.core.now c.apply_rule.new.self c.in_ok-apply_rule.ensures.stays c.in_ok-apply_rule.ensures.basis c.in_ok-apply_rule.ensures.steps (ap (λ (x : Tables). x.done) c.in_ok-apply_rule.ensures.tables)
