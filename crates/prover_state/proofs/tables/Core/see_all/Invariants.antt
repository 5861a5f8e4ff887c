use Rattle.std.proofs.Common.{◌≡◌, map, drop}
use Rattle.literal_map.specs.Atoms.{bank_literal}
use Rattle.search_spec.specs.Instances.{with_literals}
use Rattle.prover_state.specs.Internal.Standing.{the_state, IsRightState}
use Rattle.prover_state.proofs.tables.Core.see_all.Given as goal

-- what is left to see brings the state to where it is to come
abbrev pub invariant-loop-i : goal.invariant-loop-i
invariant-loop-i g l = record {
  right : IsRightState l.self.tables l.self.plan;
  tables : l.self.tables ≡ record l.fn.self.tables { seen = l.self.tables.seen };
  rule : l.self.plan.rule ≡ l.fn.self.plan.rule;
  state : with_literals l.fn.self.plan.rule.mode (map (bank_literal l.fn.self.tables.basis.bank.terms l.fn.self.tables.basis.lits) (drop l.i l.lits)) (the_state l.self.tables l.self.plan) ≡ with_literals l.fn.self.plan.rule.mode (map (bank_literal l.fn.self.tables.basis.bank.terms l.fn.self.tables.basis.lits) l.lits) (the_state l.fn.self.tables l.fn.self.plan);
}
