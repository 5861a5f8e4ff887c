use Rattle.std.proofs.Common.{◌≡◌, List, map, sym, ap, subst, ◌∙◌}
use Rattle.tableau_calculus.specs.Literals.{Literal}
use Rattle.sat_base.specs.declared.literal.SatLit.{SatLit}
use Rattle.literal_map.specs.Atoms.{bank_literal}
use Rattle.tableau_calculus.specs.RuleUses.{principals_of}
use Rattle.tableau_calculus.specs.Each.{Each}
use Rattle.search_spec.specs.Instances.{with_instance}
use Rattle.search_spec.specs.State.{State}
use Rattle.prover_state.specs.Internal.Names.{IsNumberIn}
use Rattle.prover_state.specs.Internal.Standing.{the_state}
use Rattle.prover_state.specs.Internal.Steps.{IsMadeInstance, StepsGrow}
use Rattle.prover_state.specs.declared.tables.Basis.{Basis}
use Rattle.prover_state.specs.declared.tables.Tables.{Tables}
use Rattle.prover_state.proofs.RuleLaws.{principals_same, same-alternatives, more-numbers}
use Rattle.prover_state.proofs.StateStays.{state-stays, right-stays}
use Rattle.prover_state.proofs.StepLaws.{is-made, steps-weaker}
use Rattle.prover_state.proofs.tables.Core.apply_rule.Goals as goal

pub add_instance-requires-clause-right : goal.add_instance-requires-clause-right
add_instance-requires-clause-right g c =
    let self = c.args.self.now in
    right-stays self.tables self.plan c.make_instance.new.self c.in_ok-instance.ensures.grows c.requires.ready.right c.in_ok-instance.ensures.good

pub add_instance-requires-clause-principals : goal.add_instance-requires-clause-principals
add_instance-requires-clause-principals g c =
    let old = c.args.self.now.tables.basis in
    let new = c.make_instance.new.self in
    let grows = c.in_ok-instance.ensures.grows in
    subst (Each (IsNumberIn new.lits)) (sym c.in_ok-instance.ensures.principals)
    (more-numbers old new grows (principals_of c.args.by) c.requires.principals)

pub returns-clause-state : goal.returns-clause-state
returns-clause-state g c = λ alternatives h.
    let self = c.args.self.now in
    let old = self.tables.basis in
    let new = c.make_instance.new.self in
    let grows = c.in_ok-instance.ensures.grows in
    let t = record self.tables { basis = new } in
    let mode = self.plan.rule.mode in
    let d : SatLit → Literal = bank_literal new.bank.terms new.lits in
    let made = map (map d) c.in_ok-instance.instance.alternatives in
    c.in_ok-add_instance.ensures.state
    ∙ ap (λ (ps : List SatLit). with_instance mode (map d ps) made (the_state t self.plan)) c.in_ok-instance.ensures.principals
    ∙ ap (λ (ps : List Literal). with_instance mode ps made (the_state t self.plan)) (principals_same old new grows c.requires.ready.right.basis c.args.by c.requires.principals c.requires.parts)
    ∙ ap (λ (as' : List (List Literal)). with_instance mode (map (bank_literal old.bank.terms old.lits) (principals_of c.args.by)) as' (the_state t self.plan))
    (same-alternatives old new grows c.requires.ready.right.basis c.args.by c.requires.principals c.requires.parts alternatives made h c.in_ok-instance.ensures.instance)
    ∙ ap (λ (s : State). with_instance mode (map (bank_literal old.bank.terms old.lits) (principals_of c.args.by)) alternatives s) (state-stays self.tables self.plan new grows c.requires.ready.right)

pub returns-clause-steps : goal.returns-clause-steps
returns-clause-steps g c =
    let self = c.args.self.now in
    let old = self.tables.basis in
    let new = c.make_instance.new.self in
    let i = c.in_ok-instance.instance in
    let made : IsMadeInstance new i =
    is-made old new c.in_ok-instance.ensures.grows c.args.by i c.in_ok-instance.ensures.by c.in_ok-instance.ensures.principals c.requires.principals c.requires.parts c.requires.small c.requires.uncut
    c.in_ok-instance.ensures.numbers
    c.in_ok-instance.ensures.instance in
    subst (λ (g : Basis). StepsGrow (IsMadeInstance g) self.tables.steps c.add_instance.new.self.tables.steps) (sym (ap (λ (t : Tables). t.basis) c.in_ok-add_instance.ensures.tables))
    (steps-weaker (λ j. j ≡ i) (IsMadeInstance new) (λ j e. subst (IsMadeInstance new) (sym e) made) self.tables.steps c.add_instance.new.self.tables.steps c.in_ok-add_instance.ensures.steps)
