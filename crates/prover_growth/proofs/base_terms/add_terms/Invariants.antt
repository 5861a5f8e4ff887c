use Rattle.std.proofs.Common.{◌≡◌, map, drop}
use Rattle.stt_core.specs.View.{the_type}
use Rattle.term_bank.specs.Terms.{term_at}
use Rattle.search_spec.specs.Terms.{with_terms}
use Rattle.prover_state.specs.Internal.Standing.{the_state, IsRightState}
use Rattle.prover_growth.proofs.base_terms.add_terms.Given as goal

-- what is left to add brings the state to where it is to come
abbrev pub invariant-loop-i : goal.invariant-loop-i
invariant-loop-i g l = record {
  right : IsRightState l.core.tables l.core.plan;
  tables : l.core.tables ≡ record l.fn.core.tables { terms = l.core.tables.terms };
  rule : l.core.plan.rule ≡ l.fn.core.plan.rule;
  state : with_terms l.fn.core.plan.rule.mode (the_type l.ty) (map (term_at l.fn.core.tables.basis.bank.terms) (drop l.i l.ids)) (the_state l.core.tables l.core.plan) ≡ with_terms l.fn.core.plan.rule.mode (the_type l.ty) (map (term_at l.fn.core.tables.basis.bank.terms) l.ids) (the_state l.fn.core.tables l.fn.core.plan);
}
