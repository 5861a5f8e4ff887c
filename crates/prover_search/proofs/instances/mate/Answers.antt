use Rattle.std.proofs.Common.{sym, subst, ap}
use Rattle.stt_core.specs.Typing.{IsScope}
use Rattle.prover_state.specs.declared.tables.Tables.{Tables}
use Rattle.prover_search.proofs.RuleUses.{scope-is, mate-fits}
use Rattle.prover_search.proofs.AdvanceLaws.{advances-ruled}
use Rattle.prover_search.proofs.instances.mate.Goals as goal

pub apply_rule-requires-clause-fits : goal.apply_rule-requires-clause-fits
apply_rule-requires-clause-fits g c =
    let basis = c.args.core.now.tables.basis in
    let good = c.requires.ready.right.basis in
    (_, mate-fits basis good (subst IsScope (sym (scope-is basis good)) c.sig-declared.ensures.declared) c.args.first c.args.second c.requires.typed)

pub returns-clause-state : goal.returns-clause-state
returns-clause-state g c =
    let basis = c.args.core.now.tables.basis in
    let good = c.requires.ready.right.basis in
    c.in_ok-apply_rule.ensures.state _ (mate-fits basis good (subst IsScope (sym (scope-is basis good)) c.sig-declared.ensures.declared) c.args.first c.args.second c.requires.typed)

pub returns-clause-advances : goal.returns-clause-advances
returns-clause-advances g c =
    advances-ruled c.args.core.now c.apply_rule.new.self c.in_ok-apply_rule.ensures.stays c.in_ok-apply_rule.ensures.basis c.in_ok-apply_rule.ensures.steps (ap (λ (x : Tables). x.done) c.in_ok-apply_rule.ensures.tables)
