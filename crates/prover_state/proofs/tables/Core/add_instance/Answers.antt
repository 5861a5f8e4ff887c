use Rattle.std.proofs.Common.{◌≡◌, ◌<◌, ℕ, List, map, sym, ap, subst, ◌∙◌}
use Rattle.std.specs.List.{flat_map}
use Rattle.sat_base.specs.declared.literal.SatLit.{SatLit}
use Rattle.tableau_calculus.specs.Literals.{Literal}
use Rattle.literal_map.specs.Atoms.{bank_literal}
use Rattle.tableau_calculus.specs.Each.{Each}
use Rattle.search_spec.specs.Clauses.{instance_clauses, with_clauses}
use Rattle.search_spec.specs.Numbered.{numbers}
use Rattle.tableau_clauses.specs.Table.{the_clauses}
use Rattle.search_spec.specs.Instances.{with_literals}
use Rattle.prover_state.specs.declared.command.Delays.{Delays}
use Rattle.prover_state.specs.Internal.Names.{IsNumberIn}
use Rattle.prover_state.specs.Internal.Standing.{the_state}
use Rattle.prover_state.specs.Internal.Steps.{StepsGrow}
use Rattle.prover_state.specs.declared.tables.Tables.{Tables}
use Rattle.prover_state.proofs.InstanceLaws.{each-flat, clauses_are_numbers, too_deep, shallow_added, right-added}
use Rattle.prover_state.proofs.RoomLaws.{state-room, right-room}
use Rattle.prover_state.proofs.StepLaws.{steps-same}
use Rattle.prover_state.proofs.tables.Core.add_instance.Goals as goal

pub returns-then-not-all_shallow-clause-state : goal.returns-then-not-all_shallow-clause-state
returns-then-not-all_shallow-clause-state g c =
    let self = c.args.self.now in
    let i = c.args.instance in
    too_deep self.tables self.plan c.equal_ids_for_equal_terms.ensures c.atoms_differ.ensures c.requires.right self.plan.rule.mode i.principals i.alternatives c.requires.principals c.requires.alternatives
    (sym c.all_shallow.ensures ∙ c.if-not-all_shallow.true)

pub add_clauses-requires-clause-numbers : goal.add_clauses-requires-clause-numbers
add_clauses-requires-clause-numbers g c =
    let self = c.args.self.now in
    let i = c.args.instance in
    let N : ℕ → Type 0 = λ n. Each (Each (λ (l : SatLit). l.var.0 < n)) (with_clauses numbers (the_clauses self.tables.steps) (instance_clauses numbers i.principals i.alternatives)) in
    subst N (sym c.len-atoms.ensures)
    (clauses_are_numbers self.tables self.plan c.equal_ids_for_equal_terms.ensures c.atoms_differ.ensures c.requires.right self.plan.rule.mode i.principals i.alternatives c.requires.principals c.requires.alternatives)

pub see_all-requires-clause-right : goal.see_all-requires-clause-right
see_all-requires-clause-right g c =
    let self = c.args.self.now in
    let i = c.args.instance in
    right-room _ self.plan c.reserve.new.self c.reserve.ensures.same
    (right-added self.tables self.plan c.equal_ids_for_equal_terms.ensures c.atoms_differ.ensures c.requires.right self.plan.rule.mode i.principals i.alternatives c.requires.principals c.requires.alternatives
    c.add_clauses.new.steps c.add_clauses.new.solver c.in_ok-add_clauses.ensures.clauses c.in_ok-add_clauses.ensures.same c.add_clauses.ensures.learned)

pub see_all-requires-clause-numbers : goal.see_all-requires-clause-numbers
see_all-requires-clause-numbers g c =
    subst (Each (IsNumberIn c.args.self.now.tables.basis.lits)) (sym (c.as_slice.ensures.value ∙ c.in_ok-lits.ensures))
    (each-flat (IsNumberIn c.args.self.now.tables.basis.lits) c.args.instance.alternatives c.requires.alternatives)

pub returns-clause-state : goal.returns-clause-state
returns-clause-state g c =
    let self = c.args.self.now in
    let i = c.args.instance in
    let d : SatLit → Literal = bank_literal self.tables.basis.bank.terms self.tables.basis.lits in
    let t = record self.tables { steps = c.add_clauses.new.steps; solver = c.add_clauses.new.solver } in
    let all : List SatLit = flat_map (λ (a : List SatLit). a) i.alternatives in
    c.in_ok-see_all.ensures.state
    ∙ ap (λ (ls : List SatLit). with_literals c.reserve.new.self.rule.mode (map d ls) (the_state t c.reserve.new.self)) (c.as_slice.ensures.value ∙ c.in_ok-lits.ensures)
    ∙ ap (λ (r : Delays). with_literals r.mode (map d all) (the_state t c.reserve.new.self)) c.reserve.ensures.same.rule
    ∙ ap (with_literals self.plan.rule.mode (map d all)) (state-room t self.plan c.reserve.new.self c.reserve.ensures.same)
    ∙ shallow_added self.tables self.plan c.equal_ids_for_equal_terms.ensures c.atoms_differ.ensures c.requires.right self.plan.rule.mode i.principals i.alternatives c.requires.principals c.requires.alternatives
    c.add_clauses.new.steps c.add_clauses.new.solver c.in_ok-add_clauses.ensures.clauses (sym c.all_shallow.ensures ∙ c.if-not-all_shallow.false)

pub returns-then-not-all_shallow-clause-steps : goal.returns-then-not-all_shallow-clause-steps
returns-then-not-all_shallow-clause-steps g c = steps-same (λ i. i ≡ c.args.instance) c.args.self.now.tables.steps

pub returns-clause-steps : goal.returns-clause-steps
returns-clause-steps g c =
    subst (StepsGrow (λ i. i ≡ c.args.instance) c.args.self.now.tables.steps) (sym (ap (λ (t : Tables). t.steps) c.in_ok-see_all.ensures.tables)) c.in_ok-add_clauses.ensures.steps
