use Rattle.std.proofs.Common.{◌≡◌, drop}
use Rattle.stt_core.specs.View.{the_type}
use Rattle.search_spec.specs.Offers.{witness_terms}
use Rattle.search_spec.specs.Terms.{with_terms}
use Rattle.prover_state.specs.Lasting.{lasting}
use Rattle.prover_state.specs.Internal.Growing.{BasisGrows}
use Rattle.prover_state.specs.Internal.Standing.{rows_in, the_state, IsRightState}
use Rattle.prover_growth.proofs.offers.offer_early.Given as goal

-- what is left to add brings the state to where it is to come
abbrev pub invariant-loop-w : goal.invariant-loop-w
invariant-loop-w g l = record {
  right : IsRightState l.core.tables l.core.plan;
  basis : BasisGrows l.fn.core.tables.basis l.core.tables.basis;
  tables : l.core.tables ≡ record l.fn.core.tables { basis = l.core.tables.basis; terms = l.core.tables.terms };
  rule : l.core.plan.rule ≡ l.fn.core.plan.rule;
  lasts : lasting l.core.tables ≡ lasting l.fn.core.tables;
  state : with_terms l.fn.core.plan.rule.mode (the_type l.ty) (witness_terms (the_type l.ty) l.w (drop l.w (rows_in l.fn.core.tables.basis))) (the_state l.core.tables l.core.plan)
      ≡ with_terms l.fn.core.plan.rule.mode (the_type l.ty) (witness_terms (the_type l.ty) 0 (rows_in l.fn.core.tables.basis)) (the_state l.fn.core.tables l.fn.core.plan);
}
