use Rattle.std.proofs.Common.{◌+◌, subst, sym, ◌∙◌}
use Rattle.tableau_calculus.specs.Each.{Each}
use Rattle.search_spec.specs.TypedState.{IsTypedSketch, IsTypedCommand}
use Rattle.type_bound.specs.Small.{IsSmallCommand}
use Rattle.prover_state.specs.declared.tables.Tables.{Tables}
use Rattle.prover_state.specs.Internal.Names.{command_at}
use Rattle.prover_state.specs.Internal.Standing.{scope_by, sketches_in, naming_in}
use Rattle.prover_search.proofs.RunLaws.{counted, Carried, clock-same, due-small, right-done, taken-typed, taken-small, taken-sketches, setting-next, start-next, goes-on, running-next}
use Rattle.prover_search.proofs.advance.go.Goals as goal

pub moment_of-core-requires : goal.moment_of-core-requires
moment_of-core-requires g c = due-small c.args.core.now.tables c.args.core.now.plan c.take_next.new.self.plan c.requires.running c.in_ok-taken.taken c.in_ok-taken.ensures.takes

pub carry_out-requires-clause-right : goal.carry_out-requires-clause-right
carry_out-requires-clause-right g c = let u = c.take_next.new.self in right-done u.tables u.plan (u.tables.done + 1) c.moment_of-core.result c.in_ok-taken.ensures.stays.right

pub carry_out-requires-clause-typed : goal.carry_out-requires-clause-typed
carry_out-requires-clause-typed g c =
    let core = c.args.core.now in
    let u = c.take_next.new.self in
    let m = c.moment_of-core.result in
    let clock = clock-same core.tables u.tables c.args.clock core.plan.rule.mode.clock m c.in_ok-taken.taken.due c.requires.clock c.take_next.ensures.tables c.moment_of-core.ensures in
    let T : Tables → Type 0 = λ x. IsTypedCommand (scope_by (counted m x).basis) (command_at (naming_in (counted m x)) c.in_ok-taken.taken.command) in
    subst T (sym c.take_next.ensures.tables) (taken-typed core.tables core.plan u.plan c.requires.running c.in_ok-taken.taken c.in_ok-taken.ensures.takes c.in_ok-taken.ensures.stays.rule m clock)

pub carry_out-requires-clause-small : goal.carry_out-requires-clause-small
carry_out-requires-clause-small g c =
    let core = c.args.core.now in
    let u = c.take_next.new.self in
    let m = c.moment_of-core.result in
    let clock = clock-same core.tables u.tables c.args.clock core.plan.rule.mode.clock m c.in_ok-taken.taken.due c.requires.clock c.take_next.ensures.tables c.moment_of-core.ensures in
    let T : Tables → Type 0 = λ x. IsSmallCommand (command_at (naming_in (counted m x)) c.in_ok-taken.taken.command) in
    subst T (sym c.take_next.ensures.tables) (taken-small core.tables core.plan u.plan c.requires.running c.in_ok-taken.taken c.in_ok-taken.ensures.takes c.in_ok-taken.ensures.stays.rule m clock)

pub carry_out-requires-clause-sketches : goal.carry_out-requires-clause-sketches
carry_out-requires-clause-sketches g c =
    let core = c.args.core.now in
    let u = c.take_next.new.self in
    let m = c.moment_of-core.result in
    let clock = clock-same core.tables u.tables c.args.clock core.plan.rule.mode.clock m c.in_ok-taken.taken.due c.requires.clock c.take_next.ensures.tables c.moment_of-core.ensures in
    let T : Tables → Type 0 = λ x. Each (IsTypedSketch (scope_by (counted m x).basis)) (sketches_in (counted m x)) in
    subst T (sym c.take_next.ensures.tables) (taken-sketches core.tables core.plan u.plan c.requires.running c.in_ok-taken.taken c.in_ok-taken.ensures.takes c.in_ok-taken.ensures.stays.rule m clock)

pub returns-clause-running : goal.returns-clause-running
returns-clause-running g c =
    let core = c.args.core.now in
    let u = c.take_next.new.self in
    let m = c.moment_of-core.result in
    let clock = clock-same core.tables u.tables c.args.clock core.plan.rule.mode.clock m c.in_ok-taken.taken.due c.requires.clock c.take_next.ensures.tables c.moment_of-core.ensures in
    let new = c.carry_out.new.core in
    let K : Tables → Type 0 = λ x. Carried m x u.plan c.in_ok-taken.taken.command new.tables new.plan in
    running-next core.tables core.plan u.plan c.requires.running c.in_ok-taken.taken c.in_ok-taken.ensures.takes c.in_ok-taken.ensures.stays.rule m clock new.tables new.plan
    (subst K c.take_next.ensures.tables (record { is = c.in_ok-carry_out.ensures.state; develops = c.in_ok-carry_out.ensures.advances.develops; few = c.in_ok-carry_out.ensures.advances.witnesses }))
    c.in_ok-carry_out.ensures.advances.right c.in_ok-carry_out.ensures.advances.rule (λ e. c.requires.below (e ∙ sym c.requires.limit))

pub returns-clause-goes_on : goal.returns-clause-goes_on
returns-clause-goes_on g c =
    let core = c.args.core.now in
    let u = c.take_next.new.self in
    let m = c.moment_of-core.result in
    let clock = clock-same core.tables u.tables c.args.clock core.plan.rule.mode.clock m c.in_ok-taken.taken.due c.requires.clock c.take_next.ensures.tables c.moment_of-core.ensures in
    let new = c.carry_out.new.core in
    let K : Tables → Type 0 = λ x. Carried m x u.plan c.in_ok-taken.taken.command new.tables new.plan in
    goes-on core.tables core.plan u.plan c.requires.running c.in_ok-taken.taken c.in_ok-taken.ensures.takes c.in_ok-taken.ensures.stays.rule m clock new.tables new.plan
    (subst K c.take_next.ensures.tables (record { is = c.in_ok-carry_out.ensures.state; develops = c.in_ok-carry_out.ensures.advances.develops; few = c.in_ok-carry_out.ensures.advances.witnesses }))
    c.in_ok-carry_out.ensures.advances.right c.in_ok-carry_out.ensures.advances.rule c.requires.satisfiable (λ e. c.requires.below (e ∙ sym c.requires.limit))

pub returns-clause-setting : goal.returns-clause-setting
returns-clause-setting g c =
    let core = c.args.core.now in
    let u = c.take_next.new.self in
    let m = c.moment_of-core.result in
    let clock = clock-same core.tables u.tables c.args.clock core.plan.rule.mode.clock m c.in_ok-taken.taken.due c.requires.clock c.take_next.ensures.tables c.moment_of-core.ensures in
    let new = c.carry_out.new.core in
    let K : Tables → Type 0 = λ x. Carried m x u.plan c.in_ok-taken.taken.command new.tables new.plan in
    setting-next core.tables core.plan u.plan c.requires.running c.in_ok-taken.taken c.in_ok-taken.ensures.takes c.in_ok-taken.ensures.stays.rule m clock new.tables new.plan
    (subst K c.take_next.ensures.tables (record { is = c.in_ok-carry_out.ensures.state; develops = c.in_ok-carry_out.ensures.advances.develops; few = c.in_ok-carry_out.ensures.advances.witnesses }))
    c.in_ok-carry_out.ensures.advances.right c.in_ok-carry_out.ensures.advances.rule

pub returns-clause-start : goal.returns-clause-start
returns-clause-start g c =
    let core = c.args.core.now in
    let u = c.take_next.new.self in
    let m = c.moment_of-core.result in
    let clock = clock-same core.tables u.tables c.args.clock core.plan.rule.mode.clock m c.in_ok-taken.taken.due c.requires.clock c.take_next.ensures.tables c.moment_of-core.ensures in
    let new = c.carry_out.new.core in
    let K : Tables → Type 0 = λ x. Carried m x u.plan c.in_ok-taken.taken.command new.tables new.plan in
    start-next core.tables core.plan u.plan c.requires.running c.in_ok-taken.taken c.in_ok-taken.ensures.takes c.in_ok-taken.ensures.stays.rule m clock new.tables new.plan
    (subst K c.take_next.ensures.tables (record { is = c.in_ok-carry_out.ensures.state; develops = c.in_ok-carry_out.ensures.advances.develops; few = c.in_ok-carry_out.ensures.advances.witnesses }))
    c.in_ok-carry_out.ensures.advances.right c.in_ok-carry_out.ensures.advances.rule
