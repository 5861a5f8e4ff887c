use Rattle.std.proofs.Common.{◌∙◌, ap}
use Rattle.prover_state.specs.Internal.Standing.{scope_by, setting_by, the_state}
use Rattle.prover_state.specs.declared.tables.Tables.{Tables}
use Rattle.prover_search.proofs.RuleUses.{confront-fits, confronted-is}
use Rattle.prover_search.proofs.AdvanceLaws.{advances-ruled}
use Rattle.prover_search.proofs.instances.confront.Goals as goal

pub apply_rule-requires-clause-fits : goal.apply_rule-requires-clause-fits
apply_rule-requires-clause-fits g c = (_, confront-fits c.args.core.now.tables.basis c.requires.ready.right.basis c.args.first c.args.second c.requires.typed)

pub returns-clause-state : goal.returns-clause-state
returns-clause-state g c =
    let core = c.args.core.now in
    c.in_ok-apply_rule.ensures.state _ (confront-fits core.tables.basis c.requires.ready.right.basis c.args.first c.args.second c.requires.typed)
    ∙ confronted-is (setting_by core.tables core.plan) (the_state core.tables core.plan) (scope_by core.tables.basis) _ _ c.requires.typed

pub returns-clause-advances : goal.returns-clause-advances
returns-clause-advances g c =
    advances-ruled c.args.core.now c.apply_rule.new.self c.in_ok-apply_rule.ensures.stays c.in_ok-apply_rule.ensures.basis c.in_ok-apply_rule.ensures.steps (ap (λ (x : Tables). x.done) c.in_ok-apply_rule.ensures.tables)
