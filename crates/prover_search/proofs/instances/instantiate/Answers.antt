use Rattle.std.proofs.Common.{◌∙◌, arith, ap}
use Rattle.std.proofs.lemmas.Bool.{le-leb, lt-leb}
use Rattle.stt_core.specs.Depth.{depth}
use Rattle.term_bank.specs.Terms.{term_at}
use Rattle.prover_state.specs.Internal.Standing.{scope_by, setting_by, the_state}
use Rattle.prover_state.specs.declared.tables.Tables.{Tables}
use Rattle.prover_search.proofs.AdvanceLaws.{advances-ruled, advances-not}
use Rattle.prover_search.proofs.RuleUses.{inst-fits, instantiated-is, instantiated-deep}
use Rattle.prover_search.proofs.instances.instantiate.Goals as goal

pub returns-then-depth-gt-DEPTH-clause-state : goal.returns-then-depth-gt-DEPTH-clause-state
returns-then-depth-gt-DEPTH-clause-state g c =
    let core = c.args.core.now in
    instantiated-deep (setting_by core.tables core.plan) (the_state core.tables core.plan) (scope_by core.tables.basis) _ (term_at core.tables.basis.bank.terms c.args.id) c.requires.typed
    (lt-leb (depth (term_at core.tables.basis.bank.terms c.args.id)) 4096 (omega (arith, c.depth.ensures, c.if-depth-gt-DEPTH.true)))

pub apply_rule-requires-clause-fits : goal.apply_rule-requires-clause-fits
apply_rule-requires-clause-fits g c = (_, inst-fits c.args.core.now.tables.basis c.requires.ready.right.basis c.args.lit c.args.id c.requires.typed)

pub returns-clause-state : goal.returns-clause-state
returns-clause-state g c =
    let core = c.args.core.now in
    c.in_ok-apply_rule.ensures.state _ (inst-fits core.tables.basis c.requires.ready.right.basis c.args.lit c.args.id c.requires.typed)
    ∙ instantiated-is (setting_by core.tables core.plan) (the_state core.tables core.plan) (scope_by core.tables.basis) _ (term_at core.tables.basis.bank.terms c.args.id) c.requires.typed
    (le-leb (depth (term_at core.tables.basis.bank.terms c.args.id)) 4096 (omega (arith, c.depth.ensures, c.if-depth-gt-DEPTH.false)))

pub returns-then-depth-gt-DEPTH-clause-advances : goal.returns-then-depth-gt-DEPTH-clause-advances
returns-then-depth-gt-DEPTH-clause-advances g c = advances-not c.args.core.now c.requires.ready.right

pub returns-clause-advances : goal.returns-clause-advances
returns-clause-advances g c =
    advances-ruled c.args.core.now c.apply_rule.new.self c.in_ok-apply_rule.ensures.stays c.in_ok-apply_rule.ensures.basis c.in_ok-apply_rule.ensures.steps (ap (λ (x : Tables). x.done) c.in_ok-apply_rule.ensures.tables)
