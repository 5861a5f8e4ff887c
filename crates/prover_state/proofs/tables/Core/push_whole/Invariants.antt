use Rattle.std.proofs.Common.{◌≡◌, drop}
use Rattle.search_spec.specs.State.{with_commands}
use Rattle.prover_state.specs.Internal.Pieces.{numbered_loop, IsPiece}
use Rattle.prover_state.specs.Internal.Standing.{the_state, IsRightState}
use Rattle.prover_state.proofs.tables.Core.push_whole.Given as goal

-- what is left to push brings the state to where it is to come
abbrev pub invariant-loop-place : goal.invariant-loop-place
invariant-loop-place g l = record {
  right : IsRightState l.self.tables l.self.plan;
  tables : l.self.tables ≡ l.fn.self.tables;
  rule : l.self.plan.rule ≡ l.fn.self.plan.rule;
  piece : IsPiece l.fn.self.plan.rule.mode l.fn.self.tables l.over l.first l.piece l.place;
  state : with_commands l.fn.self.plan.rule.mode (drop l.piece.from (numbered_loop l.fn.self.tables l.over l.first)) (the_state l.self.tables l.self.plan) ≡ with_commands l.fn.self.plan.rule.mode (numbered_loop l.fn.self.tables l.over l.first) (the_state l.fn.self.tables l.fn.self.plan);
}
