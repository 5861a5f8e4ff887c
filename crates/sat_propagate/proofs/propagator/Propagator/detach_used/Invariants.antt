use Rattle.std.proofs.Common.{◌≡◌}
use Rattle.sat_propagate.specs.Internal.Propagator.{IsPropagator, texts}
use Rattle.sat_propagate.proofs.propagator.Propagator.detach_used.Given as goal

abbrev pub invariant-loop : goal.invariant-loop
invariant-loop l = record {
  right : IsPropagator l.self.trail l.self.processed l.self.clauses.items l.self.lists;
  trail : l.self.trail ≡ l.fn.self.trail;
  texts_same : texts l.self.clauses.items ≡ texts l.fn.self.clauses.items;
}
