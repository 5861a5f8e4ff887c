use Rattle.std.proofs.Common.{◌≡◌, drop}
use Rattle.search_spec.specs.Selections.{selections_in, with_selections}
use Rattle.term_bank.specs.Terms.{term_at}
use Rattle.prover_state.specs.Internal.Selecting.{term_parts}
use Rattle.prover_state.specs.Internal.Standing.{the_state, IsRightState}
use Rattle.prover_state.proofs.SelectingLaws.{all_in}
use Rattle.prover_state.proofs.tables.Core.+walk.Given as goal

abbrev pub decreases-walk : goal.decreases-walk
decreases-walk g l = l.id

-- what is left to walk brings the state to where it is to come
abbrev pub invariant-loop-i : goal.invariant-loop-i
invariant-loop-i g l = record {
  right : IsRightState l.self.tables l.self.plan;
  tables : l.self.tables ≡ record l.fn.self.tables { chosen = l.self.tables.chosen; described = l.self.tables.described; walked = l.self.tables.walked };
  rule : l.self.plan.rule ≡ l.fn.self.plan.rule;
  state : with_selections l.fn.self.plan.rule.mode (all_in (drop l.i (term_parts (term_at l.fn.self.tables.basis.bank.terms l.id)))) (the_state l.self.tables l.self.plan) ≡ with_selections l.fn.self.plan.rule.mode (selections_in (term_at l.fn.self.tables.basis.bank.terms l.id)) (the_state l.fn.self.tables l.fn.self.plan);
}
