use Rattle.std.proofs.Common.{ap}
use Rattle.tableau_rules.proofs.UseLaws.{denies_none}
use Rattle.prover_state.specs.declared.tables.Tables.{Tables}
use Rattle.prover_search.proofs.AdvanceLaws.{advances-ruled}
use Rattle.prover_search.proofs.alone.apply_alone.Goals as goal

pub apply_rule-requires-clause-unwitnessed : goal.apply_rule-requires-clause-unwitnessed
apply_rule-requires-clause-unwitnessed g c = denies_none c.args.rule c.args.lit c.requires.unwitnessed

pub returns-clause-state : goal.returns-clause-state
returns-clause-state g c = c.in_ok-apply_rule.ensures.state

pub returns-clause-advances : goal.returns-clause-advances
returns-clause-advances g c =
    advances-ruled c.args.core.now c.apply_rule.new.self c.in_ok-apply_rule.ensures.stays c.in_ok-apply_rule.ensures.basis c.in_ok-apply_rule.ensures.steps (ap (λ (x : Tables). x.done) c.in_ok-apply_rule.ensures.tables)
