use Rattle.std.proofs.Common.{map, ap, ◌∙◌, arith}
use Rattle.search_spec.specs.Instances.{with_literals}
use Rattle.prover_state.specs.declared.command.Delays.{Delays}
use Rattle.literal_map.specs.Atoms.{bank_literal}
use Rattle.prover_state.specs.declared.tables.Basis.{Basis}
use Rattle.prover_state.specs.declared.tables.Tables.{Tables}
use Rattle.prover_state.specs.Internal.Standing.{the_state}
use Rattle.prover_state.proofs.SeenLaws.{seen-more, seen-all}
use Rattle.prover_state.proofs.tables.Core.see_all.Goals as goal

pub loop-i-preserved : goal.loop-i-preserved
loop-i-preserved g c =
    let first = c.args.self.now in
    let self = c.loop-i.self in
    let inv = c.loop-i.invariant in
    let goal_state = with_literals first.plan.rule.mode (map (bank_literal first.tables.basis.bank.terms first.tables.basis.lits) c.args.lits.now) (the_state first.tables first.plan) in
    let basis = ap (λ (t : Tables). t.basis) inv.tables in
    record {
      right = c.in_ok-see.ensures.stays.right;
      tables = c.in_ok-see.ensures.tables ∙ ap (λ (t : Tables). record t { seen = c.see.new.self.tables.seen }) inv.tables;
      rule = c.in_ok-see.ensures.stays.rule ∙ inv.rule;
      state =
          seen-more first.plan.rule.mode (bank_literal first.tables.basis.bank.terms first.tables.basis.lits) c.args.lits.now c.loop-i.i c.literal_of.result c.literal_of.ensures
          goal_state (the_state self.tables self.plan) (the_state c.see.new.self.tables c.see.new.self.plan) self.plan.rule.mode
          (bank_literal self.tables.basis.bank.terms self.tables.basis.lits c.literal_of.result)
          (ap (λ (r : Delays). r.mode) inv.rule) (ap (λ (h : Basis). bank_literal h.bank.terms h.lits c.literal_of.result) basis) c.in_ok-see.ensures.state inv.state;
    }

pub returns-clause-state : goal.returns-clause-state
returns-clause-state g c =
    let first = c.args.self.now in
    seen-all first.plan.rule.mode (bank_literal first.tables.basis.bank.terms first.tables.basis.lits) c.args.lits.now c.loop-i.i (omega (arith, c.loop-i-test.false))
    (the_state c.loop-i.self.tables c.loop-i.self.plan) _ c.loop-i.invariant.state
